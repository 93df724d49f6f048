use Rattle.std.proofs.Common.{◌≡◌, ◌-◌, ◌≤◌, ℕ, Some, length}
use Rattle.std.specs.{Prelude.slice_get, List.AllWithin}
use Rattle.busy_times.specs.declared.points.Point.{Point}
use Rattle.busy_times.proofs.marks.remove_mark.Given as goal

-- a point with the mark stands from here on, behind points that stand as late
abbrev pub invariant-loop-place : goal.invariant-loop-place
invariant-loop-place l = record {
  late : AllWithin (λ (p : Point). l.cycle ≤ p.cycle) l.points.items l.place (length l.points.items);
  there : (at : ℕ) × (p : Point) × (l.place ≤ at) × (slice_get l.points.items at ≡ Some p) × (p.cycle ≡ l.cycle) × (1 ≤ p.uses);
}

abbrev pub decreases-loop-place : goal.decreases-loop-place
decreases-loop-place l = length l.points.items - l.place
