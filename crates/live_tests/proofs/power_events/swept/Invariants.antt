use Rattle.live_tests.proofs.Sweeping.{IsSwept}
use Rattle.live_tests.proofs.power_events.swept.Given as goal

abbrev pub invariant-loop-at : goal.invariant-loop-at
invariant-loop-at l = IsSwept l.events l.at l.steps.items l.begun l.ended l.load
