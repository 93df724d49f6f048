-- The wrapper that is designed for a mode of a module at a width.
use Rattle.std.specs.Prelude.{ℕ, ◌+◌, ◌-◌, Bool, List, [], ◌∷◌, ◌++◌, map, length, replicate, max, min, nat_le, slice_index, if◌then◌else◌}
use Rattle.std.specs.List.{sum, sum_by, range_with_len, list_all}
use Rattle.soc_model.specs.Chips.{ModuleValue}
use Rattle.plan_model.specs.Cells.{ChainValue}
use Rattle.soc_model.specs.Modes.{scan_lengths}
use Rattle.plan_model.specs.Plans.{greatest}
use Rattle.plan_model.specs.Bounds.{quotient_up}

-- what a mode of a module has: the lengths of its scan chains, its input cells and its output cells
pub record Mode : Type 0 where
  pub lengths : List ℕ
  pub ins : ℕ
  pub outs : ℕ

abbrev pub mode_of : ModuleValue → Bool → Mode
mode_of m scan = record { lengths = scan_lengths m scan; ins = m.inputs + m.bidirs; outs = m.outputs + m.bidirs }

-- the scan length of a chain that has these scan chains
abbrev pub scan_length : (lengths scans : List ℕ) → ℕ
scan_length lengths scans = sum_by (slice_index lengths) scans

-- a scan chain's place goes before the first that is no longer
unfoldable pub put_by_length : (lengths : List ℕ) → ℕ → List ℕ → List ℕ
put_by_length lengths c [] = c ∷ []
put_by_length lengths c (d ∷ ds) =
    if nat_le (slice_index lengths d) (slice_index lengths c) then c ∷ d ∷ ds else d ∷ put_by_length lengths c ds

unfoldable pub sort_by_length : (lengths places : List ℕ) → List ℕ
sort_by_length lengths [] = []
sort_by_length lengths (c ∷ cs) = put_by_length lengths c (sort_by_length lengths cs)

-- the places of the scan chains, longest first, ties by place
abbrev pub longest_first : List ℕ → List ℕ
longest_first lengths = sort_by_length lengths (range_with_len 0 (length lengths))

-- A scan chain goes to the first chain that is at most as long as each after it: the first of least scan length.
unfoldable pub put_on_least : (lengths : List ℕ) → ℕ → List (List ℕ) → List (List ℕ)
put_on_least lengths c [] = []
put_on_least lengths c (s ∷ ss) =
    if list_all (λ r. nat_le (scan_length lengths s) (scan_length lengths r)) ss then (s ++ c ∷ []) ∷ ss else s ∷ put_on_least lengths c ss

unfoldable pub put_all_on_least : (lengths places : List ℕ) → List (List ℕ) → List (List ℕ)
put_all_on_least lengths [] parts = parts
put_all_on_least lengths (c ∷ cs) parts = put_all_on_least lengths cs (put_on_least lengths c parts)

-- the scan chains of each of `width` chains
abbrev pub scan_parts : (lengths : List ℕ) (width : ℕ) → List (List ℕ)
scan_parts lengths width = put_all_on_least lengths (longest_first lengths) (replicate width [])

abbrev pub longest_part : (lengths : List ℕ) (width : ℕ) → ℕ
longest_part lengths width = greatest (map (scan_length lengths) (scan_parts lengths width))

-- the length up to which chains are filled with `ends` cells
abbrev pub level : (lengths : List ℕ) (ends width : ℕ) → ℕ
level lengths ends width = max (longest_part lengths width) (quotient_up (ends + sum lengths) width)

-- each chain in order takes input cells up to one level and output cells up to another, while there are any
unfoldable pub filled : (lengths : List ℕ) (in_level ins out_level outs : ℕ) → List (List ℕ) → List ChainValue
filled lengths a i b o [] = []
filled lengths a i b o (s ∷ ss) =
    let x = min (a - scan_length lengths s) i in
    let y = min (b - scan_length lengths s) o in
    record { ins = x; scans = s; outs = y } ∷ filled lengths a (i - x) b (o - y) ss

-- the wrapper of the mode on `width` wires
unfoldable pub design : Mode → ℕ → List ChainValue
design m width = filled m.lengths (level m.lengths m.ins width) m.ins (level m.lengths m.outs width) m.outs (scan_parts m.lengths width)
