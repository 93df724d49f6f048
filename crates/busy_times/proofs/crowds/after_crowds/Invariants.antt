use Rattle.std.proofs.Common.{ℕ, ◌-◌, ◌<◌, ◌≤◌, length, get_or}
use Rattle.busy_times.specs.Profiles.{no_point}
use Rattle.busy_times.proofs.Sweeps.{IsSwept}
use Rattle.busy_times.proofs.crowds.after_crowds.Given as goal

abbrev pub invariant-crowds : goal.invariant-crowds
invariant-crowds l = record {
  order : l.place ≤ l.calm;
  bound : l.calm ≤ length l.points;
  behind : (k : ℕ) → l.place ≤ k → k < length l.points → l.from < (get_or l.points k no_point).cycle;
  calm : (k : ℕ) → l.place ≤ k → k < l.calm → (get_or l.points k no_point).load ≤ l.free;
  swept : IsSwept l.points l.free l.from l.width l.last l.place l.start l.crowded;
}

abbrev pub decreases-crowds : goal.decreases-crowds
decreases-crowds l = length l.points - l.place
