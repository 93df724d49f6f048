use Rattle.std.proofs.Common.{◌-◌}
use Rattle.pack_leaves.proofs.Rows.{IsDone, IsItem}
use Rattle.pack_leaves.proofs.knapsack.add_item.Given as goal

abbrev pub invariant-loop-x : goal.invariant-loop-x
invariant-loop-x l = IsDone (IsItem l.cells l.net) l.end l.x l.initial.row l.row

abbrev pub decreases-loop-x : goal.decreases-loop-x
decreases-loop-x l = l.x - l.cells
