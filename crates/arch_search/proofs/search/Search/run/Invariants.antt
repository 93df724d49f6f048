use Rattle.std.proofs.Common.{◌≤◌}
use Rattle.arch_search.proofs.search.Search.run.Given as goal

abbrev pub invariant-loop-try : goal.invariant-loop-try
invariant-loop-try l = l.self ≤ l.initial.self
