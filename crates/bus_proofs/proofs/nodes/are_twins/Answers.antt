use Rattle.std.proofs.Common.{refl}
use Rattle.leaf_bounds.specs.Bases.{chip_of}
use Rattle.bus_proofs.proofs.NodeRules.{all_twins, twins_more}
use Rattle.bus_proofs.proofs.nodes.are_twins.Goals as goal

pub loop-at-preserved : goal.loop-at-preserved
loop-at-preserved c = λ e is.
    twins_more (chip_of c.args.basis.now) e c.args.rank c.args.twins.now c.loop-at.at (c.loop-at.invariant e is) (c.if-not-is_twin.ensures.yes refl e is)

pub returns-clause-yes : goal.returns-clause-yes
returns-clause-yes c = λ t e is.
    all_twins (chip_of c.args.basis.now) e c.args.rank c.args.twins.now c.loop-at.at c.loop-at-test.false (c.loop-at.invariant e is)
