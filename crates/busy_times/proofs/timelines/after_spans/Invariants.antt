use Rattle.std.{proofs.Common.ℕ, proofs.Common.◌≤◌, specs.List.All, specs.List.AllWithin}
use Rattle.busy_times.specs.{declared.timelines.Span.Span, BusyTimes.IsClear}
use Rattle.busy_times.proofs.timelines.after_spans.Given as goal

abbrev pub invariant-loop-place : goal.invariant-loop-place
invariant-loop-place l = record {
  first : l.first ≤ l.place;
  from : l.start ≤ l.next;
  most : l.next ≤ l.last;
  ended : AllWithin (λ (s : Span). s.to ≤ l.next) l.spans 0 l.place;
  least : (other : ℕ) → l.start ≤ other → All (IsClear l.length other) l.spans → l.next ≤ other;
}
