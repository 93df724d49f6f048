use Rattle.std.proofs.Common.{◌≡◌, ℕ, ◌<◌, true}
use Rattle.plan_model.specs.Plans.{PlannedTest}
use Rattle.plan_model.specs.Runs.{Content}
use Rattle.bit_machine.specs.Lanes.{IsLane}
use Rattle.bit_machine.proofs.LaneSteps.{PathHolds}
use Rattle.bit_machine.proofs.stepped.SteppedLane.holds.Given as goal

abbrev pub invariant-loop-chain : goal.invariant-loop-chain
invariant-loop-chain l = (content : Content) (t : PlannedTest) → t.tam ≡ true → IsLane content t l.self.lane → (j : ℕ) → j < l.chain → PathHolds content t l.self l.pattern j true
