-- The layout that is made of a proper wrapper.
use Rattle.std.proofs.Common.{◌≡◌, ◌+◌, ◌≤◌, ◌^◌, Bool, true, false, List, get_or, length, map, ap, ◌∙◌, sym, arith, subst, All, sum, sum_by}
use Rattle.std.proofs.lemmas.List.{length-map}
use Rattle.std.proofs.lemmas.Option.{slice_get-get_or}
use Rattle.soc_model.specs.Chips.{ModuleValue}
use Rattle.plan_model.specs.declared.ChainPlan.{ChainPlan}
use Rattle.plan_model.specs.Cells.{Cell, ChainValue, IsProper, is_read, out_length, chain_cells, dealt}
use Rattle.soc_model.specs.Modes.{scan_lengths}
use Rattle.plan_model.specs.Listing.{module_size}
use Rattle.plan_model.specs.Views.{chain_value}
use Rattle.plan_model.proofs.CellOrder.{length-dealt}
use Rattle.plan_model.proofs.ChainLengths.{chain_fits}
use Rattle.plan_model.proofs.LowerTimes.{read_counts, total-is}
use Rattle.plan_model.proofs.ProperByCounts.{proper_is_counted}
use Rattle.vector_lines.specs.declared.layout.Layout.{Layout}
use Rattle.vector_lines.specs.Layouts.{IsListed, IsStarts, IsLayout}

module _ {m : ModuleValue} {scan : Bool} (chains : List ChainPlan) (proper : IsProper m scan (map chain_value chains)) where
  listed_chains : module_size m ≤ 10 ^ 18 → All (IsListed (scan_lengths m scan)) chains
  listed_chains small = λ k d h.
      let c : ChainPlan = get_or chains k d in
      let fits = chain_fits m scan chains proper k c (slice_get-get_or chains k d h) in
      record { listed = fits.listed; fits = omega arith }

  read_cells : sum_by out_length (chain_cells m scan (map chain_value chains)) ≡ sum (scan_lengths m scan) + sum_by (λ (c : ChainPlan). c.outs) chains
  read_cells =
      let counted = proper_is_counted m scan chains proper in
      total-is is_read false true read_counts m scan (map chain_value chains) proper ∙ omega (arith, counted.outs)

pub layout_from : {m : ModuleValue} {scan : Bool} {given : List ChainValue} (l : Layout) → IsProper m scan given → module_size m ≤ 10 ^ 18 →
    l.lengths.items ≡ scan_lengths m scan → IsStarts (scan_lengths m scan) l.starts.items → l.flops ≡ sum (scan_lengths m scan) →
    map chain_value l.chains.items ≡ given → IsLayout l
layout_from {m} {scan} l proper small lengths starts flops copied =
    let proper' : IsProper m scan (map chain_value l.chains.items) = subst (IsProper m scan) (sym copied) proper in
    record {
      starts = rw (← lengths) at starts;
      flops = flops ∙ ap sum (sym lengths);
      chains = subst (λ ns. All (IsListed ns) l.chains.items) (sym lengths) (listed_chains l.chains.items proper' small);
      read = subst (λ ns. sum_by out_length (dealt ns 0 0 (map chain_value l.chains.items)) ≡ sum ns + sum_by (λ (c : ChainPlan). c.outs) l.chains.items) (sym lengths) (read_cells l.chains.items proper');
    }

-- a proper wrapper in scan mode: how many chains, and how many of their cells are read
pub scan_counts : (m : ModuleValue) (scan : Bool) (chains : List ChainPlan) (cells : List (List Cell)) → IsProper m scan (map chain_value chains) → scan ≡ true → cells ≡ chain_cells m scan (map chain_value chains) →
    (length cells ≡ length chains) × (sum_by out_length cells ≡ sum m.chains + (m.outputs + m.bidirs))
scan_counts m scan chains cells proper on are =
    let counted = proper_is_counted m scan chains proper in
    let flops : sum (scan_lengths m scan) ≡ sum m.chains = ap (λ b. sum (scan_lengths m b)) on in
    let read : sum_by out_length cells ≡ sum (scan_lengths m scan) + sum_by (λ (c : ChainPlan). c.outs) chains = ap (sum_by out_length) are ∙ read_cells chains proper in
    (ap length are ∙ length-dealt (scan_lengths m scan) 0 0 (map chain_value chains) ∙ length-map chains chain_value, read ∙ omega arith)
