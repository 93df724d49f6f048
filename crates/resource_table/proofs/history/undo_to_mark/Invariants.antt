use Rattle.std.proofs.Common.{◌≡◌, ℕ, ◌≤◌, length}
use Rattle.resource_table.specs.Histories.{at_change, ArePlaces}
use Rattle.resource_table.proofs.history.undo_to_mark.Given as goal

abbrev pub invariant-loop-changes : goal.invariant-loop-changes
invariant-loop-changes l = record {
  places : ArePlaces l.history;
  least : l.changes ≤ length l.history.log.items;
  most : length l.history.log.items ≤ length l.initial.history.log.items;
  same : (n : ℕ) → n ≤ l.changes → at_change l.history n ≡ at_change l.initial.history n;
  long : length l.history.values.items ≡ length l.initial.history.values.items;
  marks : l.history.marks ≡ l.initial.history.marks;
}

abbrev pub decreases-loop-changes : goal.decreases-loop-changes
decreases-loop-changes l = length l.history.log.items
