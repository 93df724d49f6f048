-- How the bits of a stimulus are numbered.
use Rattle.std.proofs.Common.{◌≡◌, ℕ, ◌+◌, Bool, true, false, cond, Some, List, [], ◌∷◌, ◌++◌, length, map, take, refl, ap, ◌∙◌, sym, arith, option_map, append-nil, slice_get, slice_index, All, flat_map, sum, filter}
use Rattle.std.specs.List.{range_with_len}
use Rattle.std.proofs.lemmas.List.Elements.{All-head, All-tail}
use Rattle.std.proofs.lemmas.Option.{slice_get-map}
use Rattle.soc_model.specs.Chips.{ModuleValue}
use Rattle.plan_model.specs.Cells.{Cell, is_loaded, in_cells, out_cells, flops, stimulus_cells, IsStimulusBit}
use Rattle.soc_model.specs.Modes.{scan_lengths}
use Rattle.vector_lines.specs.Places.{stimulus_place}
use Rattle.vector_lines.specs.Building.{flop_numbers}
use Rattle.vector_lines.proofs.Responses.{joined_range, added_range, later_places, number_in_range}
use Rattle.vector_lines.proofs.Numbering.{flop_loads, flop_answers, ins_numbers, ins_loaded, flops_loaded, outs_unloaded}
use Rattle.common_lemmas.proofs.Lists.{map_append}

all_pass : (xs : List Cell) → All (λ x. is_loaded x ≡ true) xs → filter is_loaded xs ≡ xs
all_pass [] h = refl
all_pass (x ∷ xs) h = rw (All-head (λ x. is_loaded x ≡ true) x xs h, all_pass xs (All-tail (λ x. is_loaded x ≡ true) x xs h)) refl

none_pass : (xs : List Cell) → All (λ x. is_loaded x ≡ false) xs → filter is_loaded xs ≡ []
none_pass [] h = refl
none_pass (x ∷ xs) h = rw (All-head (λ x. is_loaded x ≡ false) x xs h) (none_pass xs (All-tail (λ x. is_loaded x ≡ false) x xs h))

filter_joined : (xs ys : List Cell) → filter is_loaded (xs ++ ys) ≡ filter is_loaded xs ++ filter is_loaded ys
filter_joined [] ys = refl
filter_joined (x ∷ xs) ys = by (is_loaded x) (filter_joined xs ys)
  where
    by : (b : Bool) → filter is_loaded (xs ++ ys) ≡ filter is_loaded xs ++ filter is_loaded ys → cond b (x ∷ filter is_loaded (xs ++ ys)) (filter is_loaded (xs ++ ys)) ≡ cond b (x ∷ filter is_loaded xs) (filter is_loaded xs) ++ filter is_loaded ys
    by true ih = ap (λ v. x ∷ v) ih
    by false ih = ih

-- the input cells and then the flops
order : (m : ModuleValue) (scan : Bool) → stimulus_cells m scan ≡ in_cells 0 (m.inputs + m.bidirs) ++ flat_map (flops (scan_lengths m scan)) (range_with_len 0 (length (scan_lengths m scan)))
order m scan =
    by (in_cells 0 (m.inputs + m.bidirs)) (flat_map (flops (scan_lengths m scan)) (range_with_len 0 (length (scan_lengths m scan)))) (out_cells 0 (m.outputs + m.bidirs))
    (ins_loaded 0 (m.inputs + m.bidirs)) (flops_loaded (scan_lengths m scan) (range_with_len 0 (length (scan_lengths m scan)))) (outs_unloaded 0 (m.outputs + m.bidirs))
  where
    by : (xs ys zs : List Cell) → All (λ x. is_loaded x ≡ true) xs → All (λ x. is_loaded x ≡ true) ys → All (λ x. is_loaded x ≡ false) zs → filter is_loaded (xs ++ ys ++ zs) ≡ xs ++ ys
    by xs ys zs a b c = filter_joined (xs ++ ys) zs ∙ rw (filter_joined xs ys, all_pass xs a, all_pass ys b, none_pass zs c) (append-nil (xs ++ ys))

-- numbers behind the input cells
moved : (inputs : ℕ) (lengths scans : List ℕ) → flat_map (flop_numbers inputs lengths) scans ≡ map (λ k. inputs + k) (flat_map (flop_numbers 0 lengths) scans)
moved inputs lengths [] = refl
moved inputs lengths (c ∷ cs) =
    let start : inputs + (0 + sum (take c lengths)) ≡ inputs + sum (take c lengths) = omega arith in
    rw (moved inputs lengths cs) (sym (map_append (λ k. inputs + k) (flop_numbers 0 lengths c) (flat_map (flop_numbers 0 lengths) cs)
    ∙ rw (added_range inputs (0 + sum (take c lengths)) (slice_index lengths c) (inputs + sum (take c lengths)) start) refl))

places : (m : ModuleValue) (scan : Bool) → map (stimulus_place (m.inputs + m.bidirs) (scan_lengths m scan)) (stimulus_cells m scan) ≡ range_with_len 0 ((m.inputs + m.bidirs) + sum (scan_lengths m scan))
places m scan =
    ap (map (stimulus_place (m.inputs + m.bidirs) (scan_lengths m scan))) (order m scan)
    ∙ map_append (stimulus_place (m.inputs + m.bidirs) (scan_lengths m scan)) (in_cells 0 (m.inputs + m.bidirs)) (flat_map (flops (scan_lengths m scan)) (range_with_len 0 (length (scan_lengths m scan))))
    ∙ rw (ins_numbers (scan_lengths m scan) (m.inputs + m.bidirs) 0 (m.inputs + m.bidirs), behind) (joined_range 0 (m.inputs + m.bidirs) (sum (scan_lengths m scan)) (m.inputs + m.bidirs) (omega arith))
  where
    behind : map (stimulus_place (m.inputs + m.bidirs) (scan_lengths m scan)) (flat_map (flops (scan_lengths m scan)) (range_with_len 0 (length (scan_lengths m scan)))) ≡ range_with_len (m.inputs + m.bidirs) (sum (scan_lengths m scan))
    behind =
        flop_loads (scan_lengths m scan) (m.inputs + m.bidirs) (range_with_len 0 (length (scan_lengths m scan)))
        ∙ moved (m.inputs + m.bidirs) (scan_lengths m scan) (range_with_len 0 (length (scan_lengths m scan)))
        ∙ ap (map (λ k. (m.inputs + m.bidirs) + k)) (sym (flop_answers (scan_lengths m scan) (range_with_len 0 (length (scan_lengths m scan)))) ∙ later_places [] (scan_lengths m scan))
        ∙ added_range (m.inputs + m.bidirs) 0 (sum (scan_lengths m scan)) (m.inputs + m.bidirs) (omega arith)

pub stimulus_number : (m : ModuleValue) (scan : Bool) (x : Cell) (n : ℕ) → IsStimulusBit m scan x n → stimulus_place (m.inputs + m.bidirs) (scan_lengths m scan) x ≡ n
stimulus_number m scan x n at =
    let seen : slice_get (map (stimulus_place (m.inputs + m.bidirs) (scan_lengths m scan)) (stimulus_cells m scan)) n ≡ Some (stimulus_place (m.inputs + m.bidirs) (scan_lengths m scan) x) =
    slice_get-map (stimulus_place (m.inputs + m.bidirs) (scan_lengths m scan)) (stimulus_cells m scan) n ∙ ap (option_map (stimulus_place (m.inputs + m.bidirs) (scan_lengths m scan))) at in
    number_in_range ((m.inputs + m.bidirs) + sum (scan_lengths m scan)) n (rw (places m scan) at seen)
