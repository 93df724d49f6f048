use Rattle.std.proofs.Common.{◌≡◌, false, List, get_or}
use Rattle.plan_model.specs.Plans.{PlannedTest}
use Rattle.plan_model.specs.Runs.{Content}
use Rattle.bit_machine.specs.Machines.{lanes_state, IsMachine, IsSomeMachine, AreWireSteps}
use Rattle.bit_machine.proofs.machine.Machine.step.Given as goal

abbrev pub invariant-loop-wire : goal.invariant-loop-wire
invariant-loop-wire l = record {
  some : IsSomeMachine l.self;
  cycle : l.self.cycle ≡ l.initial.self.cycle;
  change : l.self.change ≡ l.initial.self.change;
  users : l.self.users ≡ l.initial.self.users;
  machine : (content : Content) (tests : List PlannedTest) → IsMachine content tests l.initial.self → IsMachine content tests l.self;
  bits : (content : Content) (tests : List PlannedTest) → IsMachine content tests l.initial.self →
      AreWireSteps content tests l.initial.self.cycle l.wire (λ w. get_or l.drive w false) (lanes_state l.initial.self.lanes.items) (lanes_state l.self.lanes.items);
}
