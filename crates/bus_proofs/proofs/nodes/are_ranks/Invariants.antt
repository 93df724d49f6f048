use Rattle.std.proofs.Common.{ℕ, ◌<◌}
use Rattle.bus_proofs.specs.Walks.{IsNewTwin}
use Rattle.bus_proofs.proofs.nodes.are_ranks.Given as goal

abbrev pub invariant-loop-at : goal.invariant-loop-at
invariant-loop-at l = (k : ℕ) → k < l.at → IsNewTwin l.known l.rank l.twins k
