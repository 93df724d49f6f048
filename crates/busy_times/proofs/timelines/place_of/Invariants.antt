use Rattle.std.proofs.Common.{◌≡◌, ℕ, ◌-◌, ◌≤◌, Some, length}
use Rattle.std.specs.{Prelude.slice_get, List.AllWithin}
use Rattle.busy_times.specs.declared.timelines.Span.{Span}
use Rattle.busy_times.proofs.timelines.place_of.Given as goal

-- the time stands from here on, behind times that start as late
abbrev pub invariant-loop-place : goal.invariant-loop-place
invariant-loop-place l = record {
  late : AllWithin (λ (s : Span). l.span.from ≤ s.from) l.spans l.place (length l.spans);
  there : (at : ℕ) × (l.place ≤ at) × (slice_get l.spans at ≡ Some l.span);
}

abbrev pub decreases-loop-place : goal.decreases-loop-place
decreases-loop-place l = length l.spans - l.place
