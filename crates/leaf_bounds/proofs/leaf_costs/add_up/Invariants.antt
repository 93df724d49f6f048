use Rattle.std.proofs.Common.{◌≡◌, length, take}
use Rattle.leaf_bounds.specs.LeafCosts.{AreTotals}
use Rattle.leaf_bounds.proofs.leaf_costs.add_up.Given as goal

abbrev pub invariant-loop-list : goal.invariant-loop-list
invariant-loop-list l = record {
  long : length l.totals ≡ length l.initial.totals;
  totals : AreTotals (take l.list-index l.uses) l.totals;
}
