use Rattle.std.proofs.Common.{ℕ, ◌-◌, ◌<◌, ◌≤◌, get_or, length}
use Rattle.busy_times.specs.Profiles.{no_point}
use Rattle.busy_times.proofs.crowds.crowd_from.Given as goal

abbrev pub invariant-loop-place : goal.invariant-loop-place
invariant-loop-place l = record {
  from : l.from ≤ l.place;
  bound : l.place ≤ length l.points;
  crowded : (k : ℕ) → l.from ≤ k → k < l.place → l.free < (get_or l.points k no_point).load;
}

abbrev pub decreases-loop-place : goal.decreases-loop-place
decreases-loop-place l = length l.points - l.place
