use Rattle.std.proofs.Common.{arith}
use Rattle.std.proofs.lemmas.List.Sums.{sum_by_more_le}
use Rattle.plan_model.specs.Views.{limits_value}
use Rattle.leaf_bounds.specs.LeafCosts.{drawn_use}
use Rattle.leaf_bounds.proofs.leaf_costs.drawn_uses.Goals as goal

pub overflow_add-sum : goal.overflow_add-sum
overflow_add-sum c =
    let t = c.requires.test in
    let so_far = c.loop-near.invariant t.0 t.1 t.2 in
    let use' = c.power_use.ensures.share t.0 t.1 t.2 in
    let more = sum_by_more_le (drawn_use (limits_value c.args.limits.now) t.0 c.args.cycles) c.args.power.now c.loop-near.near-index (0, 0) c.loop-near-test.true in
    rw (so_far, c.from.ensures, c.from-in-loop-near.ensures, use') (omega (arith, more, t.3))
