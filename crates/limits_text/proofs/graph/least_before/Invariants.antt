use Rattle.limits_text.proofs.Walking.{AreLowered}
use Rattle.limits_text.proofs.graph.least_before.Given as goal

abbrev pub invariant-loop-first : goal.invariant-loop-first
invariant-loop-first l = AreLowered l.gone l.least.items l.pairs l.first-index
