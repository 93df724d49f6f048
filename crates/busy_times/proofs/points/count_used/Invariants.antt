use Rattle.std.proofs.Common.{◌≡◌, ◌≤◌, drop, length}
use Rattle.busy_times.specs.Profiles.{all_uses}
use Rattle.busy_times.proofs.points.count_used.Given as goal

abbrev pub invariant-loop-count : goal.invariant-loop-count
invariant-loop-count l = record {
  bound : l.count ≤ length l.points;
  unused : all_uses (drop l.count l.points) ≡ 0;
}

abbrev pub decreases-loop-count : goal.decreases-loop-count
decreases-loop-count l = l.count
