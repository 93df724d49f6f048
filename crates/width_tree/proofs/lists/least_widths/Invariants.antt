use Rattle.std.proofs.Common.{ℕ, ◌≡◌, ◌+◌, ◌<◌, ◌≤◌, Some, take, slice_get}
use Rattle.width_tree.specs.Cases.{IsBusItem}
use Rattle.width_tree.specs.Tables.{chip_of}
use Rattle.width_tree.specs.Findings.{IsBusSoFar, AreOlder}
use Rattle.width_tree.proofs.lists.least_widths.Given as goal

abbrev pub invariant-loop-place : goal.invariant-loop-place
invariant-loop-place l = record {
  low : l.least.low ≤ l.table.wires + 1;
  some : 1 ≤ l.least.high;
  few : l.least.high ≤ l.table.wires;
  so_far : IsBusSoFar (chip_of l.table) l.table.wires l.intervals (take l.place l.modules) l.marks l.stamp l.least;
  older : AreOlder (l.stamp + 1) l.marks;
  kept : (n m : ℕ) → n < l.place → slice_get l.modules n ≡ Some m → IsBusItem (chip_of l.table) l.table.wires l.intervals (take n l.modules) m;
}
