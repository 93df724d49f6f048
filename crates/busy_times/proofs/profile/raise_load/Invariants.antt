use Rattle.std.proofs.Common.{◌≡◌, ◌≤◌, vec_capacity}
use Rattle.busy_times.proofs.Profiles.{AreRaised}
use Rattle.busy_times.proofs.profile.raise_load.Given as goal

abbrev pub invariant-loop-place : goal.invariant-loop-place
invariant-loop-place l = record {
  first : l.first ≤ l.place;
  raised : AreRaised l.draw l.fn.points.items l.points.items l.place;
  capacity : vec_capacity l.points ≡ vec_capacity l.fn.points;
}
