use Rattle.std.proofs.Common.{◌≡◌, ◌+◌, ◌≤◌, length}
use Rattle.leaf_bounds.specs.declared.ranks.Ranks.{Ranks}
use Rattle.leaf_bounds.specs.Takings.{IsAfter}
use Rattle.leaf_bounds.proofs.ranks.undo_takings.Given as goal

abbrev pub invariant-loop-step : goal.invariant-loop-step
invariant-loop-step l = record {
  after : (before : Ranks) → length before.trail.items ≡ l.kept → IsAfter before l.initial.ranks → IsAfter before l.ranks;
  count : l.kept ≤ length l.initial.ranks.trail.items → length l.ranks.trail.items + l.step ≡ length l.initial.ranks.trail.items + l.kept;
}
