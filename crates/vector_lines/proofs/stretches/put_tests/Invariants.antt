use Rattle.std.proofs.Common.{◌≡◌, ℕ, ◌+◌, ◌<◌, List, length}
use Rattle.plan_model.specs.Plans.{PlannedTest}
use Rattle.plan_model.specs.Runs.{Content}
use Rattle.vector_lines.specs.Lanes.{IsFilled, AreLanes}
use Rattle.vector_lines.specs.Wires.{AreOnWires}
use Rattle.vector_lines.specs.Marks.{Marks}
use Rattle.vector_lines.specs.Vectors.{IsLineBelow}
use Rattle.vector_lines.proofs.stretches.put_tests.Given as goal

abbrev pub invariant-loop-place : goal.invariant-loop-place
invariant-loop-place g l = record {
  long : length l.text ≡ length l.initial.text;
  lines : (content : Content) (marks : Marks) (tests : List PlannedTest) → AreLanes (IsFilled (g.C.Contents.drive l.contents) (g.C.Contents.mark l.contents) content marks) tests l.lanes → AreOnWires tests l.wires → (r : ℕ) →
      r < l.count → IsLineBelow content marks tests l.place l.wires (l.from + r) r l.text;
}
