use Rattle.std.proofs.Common.{◌≡◌, ◌≤◌, List}
use Rattle.plan_model.specs.Plans.{PlannedTest}
use Rattle.plan_model.specs.Runs.{Content}
use Rattle.bit_machine.specs.Machines.{lanes_state, IsMachine}
use Rattle.bit_machine.proofs.Counting.{captures_below, rights_below}
use Rattle.bit_machine.proofs.machine.Machine.captures.Given as goal

abbrev pub invariant-loop-wire : goal.invariant-loop-wire
invariant-loop-wire l = record {
  few : l.counts.1 ≤ l.counts.0;
  fit : l.counts.0 ≤ l.wire;
  captures : (content : Content) (tests : List PlannedTest) → IsMachine content tests l.self → l.counts.0 ≡ captures_below tests l.self.cycle l.wire;
  rights : (content : Content) (tests : List PlannedTest) → IsMachine content tests l.self → l.counts.1 ≡ rights_below content tests (lanes_state l.self.lanes.items) l.self.cycle l.wire;
}
