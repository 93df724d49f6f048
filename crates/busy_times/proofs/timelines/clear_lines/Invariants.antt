use Rattle.busy_times.proofs.Emptying.{AreClearedTo}
use Rattle.busy_times.proofs.timelines.clear_lines.Given as goal

abbrev pub invariant-loop-at : goal.invariant-loop-at
invariant-loop-at l = AreClearedTo l.at l.initial.lines.items l.lines.items
