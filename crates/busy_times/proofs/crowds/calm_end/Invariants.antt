use Rattle.std.proofs.Common.{ℕ, ◌<◌, ◌≤◌, length, get_or}
use Rattle.busy_times.specs.Profiles.{no_point, IsEndedProfile}
use Rattle.busy_times.proofs.crowds.calm_end.Given as goal

abbrev pub invariant-loop-place : goal.invariant-loop-place
invariant-loop-place l = record {
  bound : l.place ≤ length l.points;
  most : l.calm ≤ l.last;
  ahead : l.place < length l.points → l.calm ≤ (get_or l.points l.place no_point).cycle;
  calm : (load : ℕ → ℕ) → IsEndedProfile load l.points l.last → (c : ℕ) → l.calm ≤ c → load c ≤ l.free;
}

abbrev pub decreases-loop-place : goal.decreases-loop-place
decreases-loop-place l = l.place
