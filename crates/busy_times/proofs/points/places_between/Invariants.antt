use Rattle.std.proofs.Common.{◌-◌, ◌<◌, ◌≤◌, length, get_or}
use Rattle.busy_times.specs.Profiles.{no_point}
use Rattle.busy_times.proofs.points.places_between.Given as goal

abbrev pub invariant-loop-low : goal.invariant-loop-low
invariant-loop-low l = record {
  order : l.low ≤ l.high;
  bound : l.high ≤ length l.points;
  ahead : 0 < l.low → (get_or l.points (l.low - 1) no_point).cycle < l.cycle;
  late : l.high < length l.points → l.cycle ≤ (get_or l.points l.high no_point).cycle;
}

abbrev pub decreases-loop-low : goal.decreases-loop-low
decreases-loop-low l = l.high - l.low
