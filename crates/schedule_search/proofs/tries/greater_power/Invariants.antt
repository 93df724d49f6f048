use Rattle.std.proofs.Common.{◌≤◌}
use Rattle.schedule_search.proofs.tries.greater_power.Given as goal

abbrev pub invariant-loop-step : goal.invariant-loop-step
invariant-loop-step l = l.most ≤ l.greatest
