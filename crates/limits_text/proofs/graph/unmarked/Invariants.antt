use Rattle.std.proofs.Common.{◌≡◌, replicate, false}
use Rattle.limits_text.proofs.graph.unmarked.Given as goal

abbrev pub invariant-loop : goal.invariant-loop
invariant-loop l = l.gone.items ≡ replicate l.counter false
