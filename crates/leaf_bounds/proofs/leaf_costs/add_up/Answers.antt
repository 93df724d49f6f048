use Rattle.std.proofs.Common.{◌+◌, ◌^◌, ◌≤◌, ℕ, take, get_or, sym, subst, ◌∙◌, arith, slice_index, slice_set}
use Rattle.std.proofs.lemmas.List.{length-set, length-take}
use Rattle.std.proofs.lemmas.List.Elements.{All-take}
use Rattle.leaf_bounds.specs.LeafCosts.{AreTotals}
use Rattle.leaf_bounds.proofs.LeafSums.{take_next}
use Rattle.leaf_bounds.proofs.Totals.{total_small, totals_more}
use Rattle.leaf_bounds.proofs.leaf_costs.add_up.Goals as goal

pub overflow_add-totals : goal.overflow_add-totals
overflow_add-totals c =
    let within = c.loop-list-test.true in
    let p = get_or c.args.uses.now c.loop-list.list-index (0, 0) in
    let small = c.requires.small c.loop-list.list-index (0, 0) within in
    let listed = c.requires.listed c.loop-list.list-index (0, 0) within in
    let few = total_small (take c.loop-list.list-index c.args.uses.now) c.loop-list.totals p.0
    (All-take (λ (o : ℕ × ℕ). o.1 ≤ 10 ^ 9) c.loop-list.list-index c.args.uses.now c.requires.small) c.loop-list.invariant.totals (omega (arith, listed, c.loop-list.invariant.long)) in
    omega (arith, small, few, length-take c.loop-list.list-index c.args.uses.now, c.requires.few)

pub loop-list-preserved : goal.loop-list-preserved
loop-list-preserved c =
    let within = c.loop-list-test.true in
    let p = get_or c.args.uses.now c.loop-list.list-index (0, 0) in
    let listed = c.requires.listed c.loop-list.list-index (0, 0) within in
    let next = take_next c.args.uses.now c.loop-list.list-index (0, 0) within in
    record {
      long = length-set c.loop-list.totals p.0 (slice_index c.loop-list.totals p.0 + p.1) ∙ c.loop-list.invariant.long;
      totals = subst (λ os. AreTotals os (slice_set c.loop-list.totals p.0 (slice_index c.loop-list.totals p.0 + p.1))) (sym next)
          (totals_more (take c.loop-list.list-index c.args.uses.now) c.loop-list.totals p.0 p.1 (omega (arith, listed, c.loop-list.invariant.long)) c.loop-list.invariant.totals);
    }
