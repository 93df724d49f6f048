use Rattle.std.proofs.Common.{get_or}
use Rattle.proof_facts.proofs.Smallest.{next_least}
use Rattle.proof_facts.proofs.powers.least_of.Goals as goal

pub loop-power-preserved : goal.loop-power-preserved
loop-power-preserved c = next_least (get_or c.args.steps.now 0 (0, 0)).1 c.args.steps.now c.loop-power.power-index c.loop-power.least c.min-least.result (0, 0) c.loop-power-test.true c.loop-power.invariant c.min-least.ensures
