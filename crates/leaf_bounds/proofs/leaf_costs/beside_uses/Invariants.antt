use Rattle.std.proofs.Common.{◌≡◌, take, sum_by}
use Rattle.leaf_bounds.specs.Leaves.{is_rank}
use Rattle.leaf_bounds.specs.LeafCosts.{beside_use}
use Rattle.leaf_bounds.proofs.leaf_costs.beside_uses.Given as goal

abbrev pub invariant-loop-list : goal.invariant-loop-list
invariant-loop-list l = l.sum ≡ sum_by (beside_use l.table (is_rank l.rank) l.test l.cycles) (take l.list-index l.beside)
