use Rattle.std.proofs.Common.{◌≡◌, ◌+◌, ◌-◌, ◌≤◌, ◌++◌, length, drop}
use Rattle.std.specs.Prelude.{vec_capacity}
use Rattle.live_tests.specs.Events.{step_events}
use Rattle.live_tests.proofs.power_events.put_steps.Given as goal

abbrev pub invariant-loop-from : goal.invariant-loop-from
invariant-loop-from l = record {
  goes_on : l.events.items ++ step_events l.start l.end l.now (drop l.from-index l.steps) ≡ l.initial.events.items ++ step_events l.start l.end 0 l.steps;
  space : length l.events.items + (length l.steps - l.from-index) + 1 ≤ vec_capacity l.events;
  room : vec_capacity l.initial.events ≤ vec_capacity l.events;
}
