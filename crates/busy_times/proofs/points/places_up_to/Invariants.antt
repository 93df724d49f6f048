use Rattle.std.proofs.Common.{◌<◌, ◌≤◌, length, get_or}
use Rattle.busy_times.specs.Profiles.{no_point}
use Rattle.busy_times.proofs.points.places_up_to.Given as goal

abbrev pub invariant-loop-far : goal.invariant-loop-far
invariant-loop-far l = record {
  bound : l.high ≤ length l.points;
  late : l.high < length l.points → l.cycle ≤ (get_or l.points l.high no_point).cycle;
}

abbrev pub decreases-loop-far : goal.decreases-loop-far
decreases-loop-far l = l.high
