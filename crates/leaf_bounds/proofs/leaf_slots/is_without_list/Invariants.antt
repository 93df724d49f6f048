use Rattle.std.proofs.Common.{◌≢◌, take, All}
use Rattle.leaf_bounds.specs.declared.leaf_costs.BesideUse.{BesideUse}
use Rattle.leaf_bounds.proofs.leaf_slots.is_without_list.Given as goal

abbrev pub invariant-loop-list : goal.invariant-loop-list
invariant-loop-list l = All (λ (b : BesideUse). b.rank ≢ l.rank) (take l.list-index l.beside)
