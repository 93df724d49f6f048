use Rattle.std.proofs.Common.{◌≡◌, List, length}
use Rattle.plan_model.specs.Plans.{PlannedTest}
use Rattle.plan_model.specs.Runs.{Content}
use Rattle.bit_machine.specs.Machines.{AreStepped, AreUsersBelow}
use Rattle.vector_lines.specs.Wires.{AreOnWires}
use Rattle.bit_machine.proofs.machine.assign_wires.Given as goal

abbrev pub invariant-loop-place : goal.invariant-loop-place
invariant-loop-place l = record {
  long : length l.users ≡ length l.fn.users;
  users : (content : Content) (tests : List PlannedTest) → AreStepped content tests l.lanes → AreOnWires tests (length l.fn.users) → AreUsersBelow tests l.cycle l.place l.users;
}
