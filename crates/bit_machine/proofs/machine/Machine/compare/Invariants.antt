use Rattle.std.proofs.Common.{ℕ, ◌<◌, List, get_or, false}
use Rattle.plan_model.specs.Plans.{PlannedTest}
use Rattle.plan_model.specs.Runs.{Content}
use Rattle.bit_machine.specs.Machines.{IsMachine, IsMark}
use Rattle.bit_machine.proofs.machine.Machine.compare.Given as goal

abbrev pub invariant-loop-wire : goal.invariant-loop-wire
invariant-loop-wire l = (content : Content) (tests : List PlannedTest) → IsMachine content tests l.self → (w : ℕ) → w < l.wire → IsMark tests l.self.cycle w (get_or l.care w false)
