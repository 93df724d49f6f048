use Rattle.std.proofs.Common.{◌-◌, ◌<◌, ◌≤◌, length, get_or}
use Rattle.busy_times.specs.Profiles.{no_point}
use Rattle.busy_times.proofs.points.places_from.Given as goal

abbrev pub invariant-loop-far : goal.invariant-loop-far
invariant-loop-far l = record {
  bound : l.low ≤ length l.points;
  ahead : 0 < l.low → (get_or l.points (l.low - 1) no_point).cycle < l.cycle;
}

abbrev pub decreases-loop-far : goal.decreases-loop-far
decreases-loop-far l = length l.points - l.low
