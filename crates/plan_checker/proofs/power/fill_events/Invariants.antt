use Rattle.std.proofs.Common.{◌≡◌, ◌*◌, ◌≤◌, length, take, vec_capacity}
use Rattle.plan_model.specs.Views.{limits_value}
use Rattle.plan_checker.specs.declared.events.TheConstants.{EVENTS_EACH}
use Rattle.live_tests.specs.Events.{all_events}
use Rattle.plan_checker.proofs.power.fill_events.Given as goal

abbrev pub invariant-loop-place : goal.invariant-loop-place
invariant-loop-place l = record {
  filled : l.events.items ≡ all_events (limits_value l.load.limits.now) (take l.place l.load.placed.now);
  few : length l.events.items ≤ l.place * EVENTS_EACH;
  room : vec_capacity l.fn.events ≤ vec_capacity l.events;
}
