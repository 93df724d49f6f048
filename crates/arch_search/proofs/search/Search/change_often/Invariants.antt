use Rattle.std.proofs.Common.{◌≡◌}
use Rattle.arch_search.proofs.search.Search.change_often.Given as goal

abbrev pub invariant-loop-change : goal.invariant-loop-change
invariant-loop-change l = l.self ≡ l.initial.self
