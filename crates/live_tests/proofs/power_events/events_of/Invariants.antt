use Rattle.std.proofs.Common.{◌≡◌, take}
use Rattle.plan_model.specs.Views.{limits_value}
use Rattle.live_tests.specs.Events.{all_events}
use Rattle.live_tests.proofs.power_events.events_of.Given as goal

abbrev pub invariant-loop-test : goal.invariant-loop-test
invariant-loop-test l = l.events.items ≡ all_events (limits_value l.limits) (take l.test-index l.tests)
