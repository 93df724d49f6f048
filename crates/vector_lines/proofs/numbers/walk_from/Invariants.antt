use Rattle.vector_lines.proofs.Walks.{IsReached}
use Rattle.vector_lines.proofs.numbers.walk_from.Given as goal

abbrev pub invariant-loop-run : goal.invariant-loop-run
invariant-loop-run g l = IsReached l.runs l.place l.run l.before
