use Rattle.std.proofs.Common.{◌≡◌, ℕ, ◌<◌, List, get_or, false}
use Rattle.plan_model.specs.Plans.{PlannedTest}
use Rattle.plan_model.specs.Runs.{Content, shown}
use Rattle.bit_machine.specs.Machines.{lanes_state, IsMachine}
use Rattle.bit_machine.proofs.machine.Machine.show.Given as goal

abbrev pub invariant-loop-wire : goal.invariant-loop-wire
invariant-loop-wire l = (content : Content) (tests : List PlannedTest) → IsMachine content tests l.self → (w : ℕ) → w < l.wire → get_or l.read w false ≡ shown tests (lanes_state l.self.lanes.items) l.self.cycle w
