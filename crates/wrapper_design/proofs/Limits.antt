-- Sums that fit, and the level that they give.
use Rattle.std.proofs.Common.{◌≡◌, ℕ, suc, ◌+◌, ◌*◌, ◌≤◌, max, Bool, true, false, List, [], ◌∷◌, length, map, refl, ap, sym, ◌∙◌, arith}
use Rattle.std.specs.Prelude.{slice_index}
use Rattle.std.specs.List.{sum_by, sum, range_with_len, All}
use Rattle.std.proofs.lemmas.List.Sums.{sum_by-cons}
use Rattle.soc_model.specs.Chips.{ModuleValue}
use Rattle.soc_model.specs.Modes.{scan_lengths}
use Rattle.wrapper_design.specs.declared.order.ScanChain.{ScanChain}
use Rattle.wrapper_design.specs.Loads.{IsOrder}
use Rattle.wrapper_design.specs.Design.{Mode, longest_part, level, design}
use Rattle.wrapper_design.specs.Balance.{in_length_of, out_length_of}
use Rattle.wrapper_design.proofs.Laws.{design_in_length, design_out_length, level_bounded}
use Rattle.plan_model.specs.Bounds.{quotient_up}
use Rattle.wrapper_design.proofs.Parts.{sum_sort}
use Rattle.plan_model.specs.Listing.{module_size}
use Rattle.plan_model.proofs.LowerTimes.{sum_places}

-- the scan cells of a mode are counted twice in the size of the module
pub flops-le : (m : ModuleValue) (scan : Bool) → 2 * sum (scan_lengths m scan) ≤ module_size m
flops-le m true = omega arith
flops-le m false = omega arith

along : (lengths : List ℕ) (order : List ScanChain) → All (λ (c : ScanChain). c.length.0 ≡ slice_index lengths c.place) order → sum_by (λ (c : ScanChain). c.length.0) order ≡ sum_by (slice_index lengths) (map (λ (c : ScanChain). c.place) order)
along lengths [] h = refl
along lengths (c ∷ cs) h =
    let here : c.length.0 ≡ slice_index lengths c.place = h 0 c (omega arith) in
    let ih : sum_by (λ (c : ScanChain). c.length.0) cs ≡ sum_by (slice_index lengths) (map (λ (c : ScanChain). c.place) cs) = along lengths cs (λ k d less. h (suc k) d (omega arith)) in
    omega (arith, sum_by-cons (λ (c : ScanChain). c.length.0) c cs, sum_by-cons (slice_index lengths) c.place (map (λ (c : ScanChain). c.place) cs))

-- the lengths in their order add up to the flops
pub order_sum : (lengths : List ℕ) (order : List ScanChain) → IsOrder lengths order → sum_by (λ (c : ScanChain). c.length.0) order ≡ sum lengths
order_sum lengths order is =
    along lengths order is.lengths_are ∙ ap (sum_by (slice_index lengths)) is.places ∙ sum_sort (slice_index lengths) lengths (range_with_len 0 (length lengths)) ∙ sum_places [] lengths

-- ---- the longest paths of the design, from the level up to which its chains are filled

pub in_path : (m : Mode) (w longest flops r : ℕ) → 1 ≤ w → longest ≡ longest_part m.lengths w → flops ≡ sum m.lengths → r ≡ max longest (quotient_up (m.ins + flops) w) → (r ≡ in_length_of m (design m w)) × (r ≤ m.ins + sum m.lengths)
in_path m w longest flops r some part all is =
    let e : r ≡ level m.lengths m.ins w = is ∙ rw (part, all) refl in
    (e ∙ sym (design_in_length m w some), omega (arith, e, level_bounded m.lengths m.ins w some))

pub out_path : (m : Mode) (w longest flops r : ℕ) → 1 ≤ w → longest ≡ longest_part m.lengths w → flops ≡ sum m.lengths → r ≡ max longest (quotient_up (m.outs + flops) w) → (r ≡ out_length_of m (design m w)) × (r ≤ m.outs + sum m.lengths)
out_path m w longest flops r some part all is =
    let e : r ≡ level m.lengths m.outs w = is ∙ rw (part, all) refl in
    (e ∙ sym (design_out_length m w some), omega (arith, e, level_bounded m.lengths m.outs w some))
