use Rattle.std.proofs.Common.{◌≡◌, ◌+◌, ◌≤◌, length}
use Rattle.leaf_bounds.specs.declared.widths.Widths.{Widths}
use Rattle.leaf_bounds.specs.Trails.{IsLater}
use Rattle.leaf_bounds.proofs.widths.undo_changes.Given as goal

abbrev pub invariant-loop-step : goal.invariant-loop-step
invariant-loop-step l = record {
  later : (before : Widths) → length before.trail.items ≡ l.kept → IsLater before l.initial.widths → IsLater before l.widths;
  count : l.kept ≤ length l.initial.widths.trail.items → length l.widths.trail.items + l.step ≡ length l.initial.widths.trail.items + l.kept;
}
