use Rattle.std.proofs.Common.{◌≡◌, replicate}
use Rattle.limits_text.proofs.graph.repeated.Given as goal

abbrev pub invariant-loop : goal.invariant-loop
invariant-loop l = l.counts.items ≡ replicate l.counter l.number
