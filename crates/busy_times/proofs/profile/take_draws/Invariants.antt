use Rattle.std.proofs.Common.{◌≡◌, ◌++◌, ◌-◌, ◌≤◌, ℕ, List, length, drop, take, vec_capacity}
use Rattle.busy_times.specs.{Draws.marks_from, Profiles.ArePoints}
use Rattle.busy_times.proofs.profile.take_draws.Given as goal

abbrev pub invariant-loop-at : goal.invariant-loop-at
invariant-loop-at l = record {
  most : l.at ≤ length l.draws;
  least : l.count ≤ l.at;
  points : (cycles : List ℕ) → ArePoints l.draws (marks_from l.start (drop l.count l.draws) ++ cycles) l.fn.points.items → ArePoints (take l.at l.draws) (marks_from l.start (drop l.count l.draws) ++ cycles) l.points.items;
  capacity : vec_capacity l.points ≡ vec_capacity l.fn.points;
}

abbrev pub decreases-loop-at : goal.decreases-loop-at
decreases-loop-at l = l.at - l.count
