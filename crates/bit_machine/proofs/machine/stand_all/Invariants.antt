use Rattle.std.proofs.Common.{◌≡◌, List, length}
use Rattle.plan_model.specs.Plans.{PlannedTest}
use Rattle.plan_model.specs.Runs.{Content}
use Rattle.bit_machine.specs.Machines.{lanes_state, AreStepped, AreNowBelow, AreSomeUsers}
use Rattle.bit_machine.proofs.machine.stand_all.Given as goal

abbrev pub invariant-loop-wire : goal.invariant-loop-wire
invariant-loop-wire l = record {
  some : AreSomeUsers l.lanes l.cycle l.users;
  long : length l.lanes ≡ length l.initial.lanes;
  state : lanes_state l.lanes ≡ lanes_state l.initial.lanes;
  lanes : (content : Content) (tests : List PlannedTest) → AreStepped content tests l.initial.lanes → AreStepped content tests l.lanes;
  now : AreNowBelow l.lanes l.cycle l.wire;
}
