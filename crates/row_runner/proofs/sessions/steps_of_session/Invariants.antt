use Rattle.std.proofs.Common.{◌≡◌}
use Rattle.row_runner.proofs.sessions.steps_of_session.Given as goal

abbrev pub invariant-loop-step : goal.invariant-loop-step
invariant-loop-step l = l.session.cells ≡ l.initial.session.cells
