use Rattle.std.proofs.Common.{◌-◌, get_or, min, arith}
use Rattle.bound_rules.proofs.Energies.{none_added, next_added, all_added}
use Rattle.leaf_bounds.specs.Lists.{counted}
use Rattle.leaf_bounds.proofs.LeafSums.{counted_cycles-le}
use Rattle.leaf_bounds.proofs.leaf_costs.counted_steps.Goals as goal

pub loop-from-init : goal.loop-from-init
loop-from-init c = none_added (counted c.args.limit c.args.near) c.args.limit c.args.steps.now c.args.cycles c.requires.steps

pub loop-from-preserved : goal.loop-from-preserved
loop-from-preserved c =
    rw (c.counted_cycles-sum.ensures.drawn, c.min-end.ensures)
    (next_added (counted c.args.limit c.args.near) c.args.limit c.args.steps.now c.args.cycles c.loop-from.from-index c.loop-from.begun c.loop-from.power c.loop-from.sum (0, 0) c.loop-from-test.true
    (counted_cycles-le c.args.limit c.args.near c.loop-from.power (min c.args.cycles (get_or c.args.steps.now c.loop-from.from-index (0, 0)).0 - c.loop-from.begun)) c.loop-from.invariant)

pub returns-clause-sum : goal.returns-clause-sum
returns-clause-sum c =
    rw c.counted_cycles.ensures.drawn
    (all_added (counted c.args.limit c.args.near) c.args.limit c.args.steps.now c.args.cycles c.loop-from.from-index c.loop-from.begun c.loop-from.power c.loop-from.sum (omega (arith, c.loop-from-test.false)) c.loop-from.invariant)
