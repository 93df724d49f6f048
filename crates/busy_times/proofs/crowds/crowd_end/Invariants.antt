use Rattle.std.proofs.Common.{ℕ, ◌<◌, ◌≤◌, get_or}
use Rattle.busy_times.specs.Profiles.{no_point}
use Rattle.busy_times.proofs.crowds.crowd_end.Given as goal

abbrev pub invariant-loop-place : goal.invariant-loop-place
invariant-loop-place l = record {
  from : l.from ≤ l.place;
  crowded : (k : ℕ) → l.from ≤ k → k < l.place → l.free < (get_or l.points k no_point).load;
}
