use Rattle.std.proofs.Common.{take, Contains}
use Rattle.schedule_search.proofs.exchanges.is_listed.Given as goal

abbrev pub invariant-loop-first : goal.invariant-loop-first
invariant-loop-first l = Contains (take l.first-index l.before) (l.earlier, l.later) → ⊥
