use Rattle.std.proofs.Common.{◌≡◌, ◌-◌, ◌++◌, ◌≤◌, ℕ, List, length, drop, vec_capacity}
use Rattle.busy_times.specs.{declared.power.Draw.Draw, Draws.marks_from, Profiles.ArePoints}
use Rattle.busy_times.proofs.marks.remove_marks.Given as goal

abbrev pub invariant-loop-gone : goal.invariant-loop-gone
invariant-loop-gone l = record {
  few : l.gone ≤ length (marks_from l.start (drop l.from l.draws));
  points : (held : List Draw) (cycles : List ℕ) → ArePoints held (marks_from l.start (drop l.from l.draws) ++ cycles) l.fn.points.items → ArePoints held (drop l.gone (marks_from l.start (drop l.from l.draws)) ++ cycles) l.points.items;
  capacity : vec_capacity l.points ≡ vec_capacity l.fn.points;
}

abbrev pub decreases-loop-gone : goal.decreases-loop-gone
decreases-loop-gone l = l.count - l.gone
