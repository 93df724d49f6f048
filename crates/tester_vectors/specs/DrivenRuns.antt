-- A run that is driven with the bits of a text of vectors.
use Rattle.std.specs.Prelude.{◌≡◌, ℕ, ◌+◌, ◌*◌, ◌<◌, Bool, Some, List, length, slice_get}
use Rattle.soc_model.specs.declared.TestId.{TestId}
use Rattle.soc_model.specs.Chips.{SocValue}
use Rattle.plan_model.specs.Cells.{Cell}
use Rattle.plan_model.specs.Operations.{Capture}
use Rattle.plan_model.specs.Plans.{PlanValue, PlannedTest, planned}
use Rattle.plan_model.specs.Right.{IsAt, HoldsStimulus}
use Rattle.plan_model.specs.Runs.{Content, operation_at, carried, shown, run_with}
use Rattle.vector_lines.specs.Wires.{wires_of, IsCompared}
use Rattle.tester_vectors.specs.Marks.{digit}
use Rattle.tester_vectors.specs.VectorText.{head_line}

-- where the line of a cycle begins: behind the first line and the lines of the cycles before, each of two characters a
-- wire, a space and a line feed
abbrev pub line_begin : PlanValue → (cycle : ℕ) → ℕ
line_begin plan c = length (head_line (wires_of plan) plan.cycles) + c * (wires_of plan + (wires_of plan + 2))

-- the bits that are driven are those that the text shows
abbrev pub IsDriven : PlanValue → List ℕ → (drive : ℕ → ℕ → Bool) → Type 0
IsDriven plan text drive =
    (c w : ℕ) → c < plan.cycles → w < wires_of plan → slice_get text (line_begin plan c + w) ≡ Some (digit (drive c w))

-- the content with other bits at first
abbrev pub with_initial : Content → (TestId → Cell → Bool) → Content
with_initial content initial = record content { initial = initial }

-- The text shows the bits that the wires carry. Driven with them, whatever stands in the cells at first, each Capture finds
-- its stimulus, and each wire shows at each cycle the bit that the text compares there; where the text has `-`, nothing is
-- read.
pub record RunsAsShown (soc : SocValue) (plan : PlanValue) (content : Content) (text : List ℕ) : Type 0 where
  pub driven : IsDriven plan text (carried content (planned soc plan))
  pub loads : (drive : ℕ → ℕ → Bool) (initial : TestId → Cell → Bool) → IsDriven plan text drive → (i k c : ℕ) (t : PlannedTest) →
      IsAt (planned soc plan) i t → operation_at t c ≡ Some (Capture k) →
      HoldsStimulus content (run_with (with_initial content initial) (planned soc plan) drive c) i t k
  pub reads : (drive : ℕ → ℕ → Bool) (initial : TestId → Cell → Bool) → IsDriven plan text drive → (c w : ℕ) → c < plan.cycles →
      w < wires_of plan → IsCompared (planned soc plan) c w →
      slice_get text (line_begin plan c + (wires_of plan + 1 + w))
      ≡ Some (digit (shown (planned soc plan) (run_with (with_initial content initial) (planned soc plan) drive c) c w))
  pub rest : (c w : ℕ) → c < plan.cycles → w < wires_of plan → (IsCompared (planned soc plan) c w → ⊥) →
      slice_get text (line_begin plan c + (wires_of plan + 1 + w)) ≡ Some 45
