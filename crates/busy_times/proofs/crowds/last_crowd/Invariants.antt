use Rattle.std.proofs.Common.{ℕ, ◌<◌, ◌≤◌, get_or}
use Rattle.busy_times.specs.Profiles.{no_point}
use Rattle.busy_times.proofs.crowds.last_crowd.Given as goal

abbrev pub invariant-loop-place : goal.invariant-loop-place
invariant-loop-place l = record {
  to : l.place ≤ l.to;
  low : (k : ℕ) → l.place ≤ k → k < l.to → (get_or l.points k no_point).load ≤ l.free;
}

abbrev pub decreases-loop-place : goal.decreases-loop-place
decreases-loop-place l = l.place
