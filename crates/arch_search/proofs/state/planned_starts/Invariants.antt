use Rattle.std.proofs.Common.{◌≡◌, length}
use Rattle.arch_search.proofs.state.planned_starts.Given as goal

abbrev pub invariant-loop-id : goal.invariant-loop-id
invariant-loop-id l = length l.starts.items ≡ length l.names
