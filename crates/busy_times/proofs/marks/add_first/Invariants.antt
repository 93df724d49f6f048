use Rattle.std.proofs.Common.{◌≡◌, ◌++◌, ◌≤◌, ℕ, List, length, drop, vec_capacity}
use Rattle.busy_times.specs.{declared.power.Draw.Draw, Draws.marks_from}
use Rattle.busy_times.specs.Profiles.{ArePoints, AreMarked}
use Rattle.busy_times.proofs.marks.add_first.Given as goal

abbrev pub invariant-loop-left : goal.invariant-loop-left
invariant-loop-left l = record {
  most : l.left ≤ length (marks_from l.start (drop l.from l.draws));
  points : (held : List Draw) (cycles : List ℕ) → AreMarked held cycles → ArePoints held (drop l.first (marks_from l.start (drop l.from l.draws)) ++ cycles) l.fn.points.items → ArePoints held (drop l.left (marks_from l.start (drop l.from l.draws)) ++ cycles) l.points.items;
  capacity : vec_capacity l.points ≡ vec_capacity l.fn.points;
}

abbrev pub decreases-loop-left : goal.decreases-loop-left
decreases-loop-left l = l.left
