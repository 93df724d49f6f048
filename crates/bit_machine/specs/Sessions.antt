-- One module in its wrapper, cycle by cycle.
use Rattle.std.specs.Prelude.{ℕ, Bool, false, Some, List, [], ◌∷◌, map, length, take, slice_index_or, ◌≡◌}
use Rattle.std.specs.List.{range_with_len}
use Rattle.soc_model.specs.Chips.{ModuleValue}
use Rattle.plan_model.specs.Cells.{Cell, ChainValue, chain_cells}
use Rattle.soc_model.specs.Modes.{scan_lengths}
use Rattle.plan_model.specs.Operations.{Operation}
use Rattle.plan_model.specs.Runs.{next_bits}
use Rattle.vector_lines.specs.declared.layout.Layout.{Layout}
use Rattle.vector_lines.specs.Layouts.{layout_cells}
use Rattle.vector_lines.specs.Places.{response_place}

-- the lengths of the scan chains of the mode, and for each chain its cells and their bits, from wire in to wire out
pub record SessionValue : Type 0 where
  pub lengths : List ℕ
  pub cells : List (List Cell)
  pub bits : List (List Bool)

-- a bit 0 for each cell
abbrev pub zero_bits : List (List Cell) → List (List Bool)
zero_bits cells = map (map (λ x. false)) cells

-- a module in a wrapper of a mode, before any cycle
abbrev pub at_rest : ModuleValue → Bool → List ChainValue → SessionValue
at_rest m scan chains =
    record { lengths = scan_lengths m scan; cells = chain_cells m scan chains; bits = zero_bits (chain_cells m scan chains) }

-- the bits of the chains after one operation of a test that answers `response`, with the bit `drive j` on the wire of chain `j`
abbrev pub after : (response : ℕ → Cell → Bool) → Operation → (drive : ℕ → Bool) → SessionValue → List (List Bool)
after response operation drive s =
    map (λ j. next_bits response (slice_index_or s.cells j []) (Some operation) (drive j) (slice_index_or s.bits j []))
    (range_with_len 0 (length s.cells))

-- the bit of a response that a cell takes
abbrev pub response_bit : (lengths : List ℕ) → List Bool → Cell → Bool
response_bit lengths response x = slice_index_or response (response_place lengths x) false

-- ---- chain by chain

-- the second list, where each item that the first list reaches is changed by the item beside it
abbrev pub each_with : {X Y : Type 0} → (X → Y → Y) → List X → List Y → List Y
each_with f [] ys = ys
each_with f (x ∷ xs) [] = []
each_with f (x ∷ xs) (y ∷ ys) = f x y ∷ each_with f xs ys

-- every bit one place on, with this bit in the first cell
abbrev pub entered : Bool → List Bool → List Bool
entered drive bits = take (length bits) (drive ∷ bits)

-- there is a bit for each cell
abbrev pub IsLong : Layout → List (List Bool) → Type 0
IsLong l bits = map (λ (b : List Bool). length b) bits ≡ map (λ (c : List Cell). length c) (layout_cells l)
