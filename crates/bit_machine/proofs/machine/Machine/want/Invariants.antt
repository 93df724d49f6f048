use Rattle.std.proofs.Common.{◌≡◌, ℕ, ◌<◌, List, get_or, false}
use Rattle.plan_model.specs.Plans.{PlannedTest}
use Rattle.plan_model.specs.Runs.{Content, carried}
use Rattle.bit_machine.specs.Machines.{IsMachine}
use Rattle.bit_machine.proofs.machine.Machine.want.Given as goal

abbrev pub invariant-loop-wire : goal.invariant-loop-wire
invariant-loop-wire l = (content : Content) (tests : List PlannedTest) → IsMachine content tests l.self → (w : ℕ) → w < l.wire → get_or l.drive w false ≡ carried content tests l.self.cycle w
