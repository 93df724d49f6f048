use Rattle.std.proofs.Common.{◌≡◌, ℕ, ◌-◌, ◌≤◌, List, length}
use Rattle.plan_model.specs.Plans.{PlannedTest}
use Rattle.plan_model.specs.Runs.{Content}
use Rattle.vector_lines.specs.Lanes.{IsFilled}
use Rattle.vector_lines.specs.Marks.{Marks}
use Rattle.vector_lines.specs.Vectors.{ArePlayed, HasLane}
use Rattle.vector_lines.proofs.stretches.put_test.Given as goal

abbrev pub invariant-loop-cycle : goal.invariant-loop-cycle
invariant-loop-cycle g l = record {
  from : l.from ≤ l.cycle;
  begun : l.lane.start ≤ l.cycle;
  long : length l.text ≡ length l.initial.text;
  played : (content : Content) (marks : Marks) (tests : List PlannedTest) (i : ℕ) (t : PlannedTest) → HasLane (IsFilled (g.C.Contents.drive l.contents) (g.C.Contents.mark l.contents) content marks) tests l.wires i t l.lane →
      ArePlayed content marks t l.wires l.from l.cycle 0 l.initial.text l.text;
}

abbrev pub decreases-loop-cycle : goal.decreases-loop-cycle
decreases-loop-cycle g l = l.end - l.cycle
