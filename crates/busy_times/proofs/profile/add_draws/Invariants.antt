use Rattle.std.proofs.Common.{◌≡◌, ◌++◌, ℕ, List, drop, take, vec_capacity}
use Rattle.busy_times.specs.Draws.{marks_from}
use Rattle.busy_times.specs.Profiles.{ArePoints, AreMarked}
use Rattle.busy_times.proofs.profile.add_draws.Given as goal

abbrev pub invariant-loop-at : goal.invariant-loop-at
invariant-loop-at l = record {
  points : (cycles : List ℕ) → AreMarked (take l.from l.draws) cycles → ArePoints (take l.from l.draws) cycles l.fn.points.items → ArePoints (take l.at l.draws) (marks_from l.start (drop l.from l.draws) ++ cycles) l.points.items;
  capacity : vec_capacity l.points ≡ vec_capacity l.fn.points;
}
