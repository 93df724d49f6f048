-- A run of vectors, and the lines of its cycles.
use Rattle.std.specs.Prelude.{◌≡◌, ℕ, ◌+◌, ◌*◌, ◌≤◌, List, length}
use Rattle.std.specs.List.{flat_map, range_with_len}
use Rattle.soc_model.specs.Chips.{SocValue, soc_value}
use Rattle.plan_model.specs.Plans.{PlanValue, planned}
use Rattle.plan_model.specs.Rules.{IsGoodAlone}
use Rattle.plan_model.specs.Runs.{Content}
use Rattle.plan_model.specs.Views.{plan_value}
use Rattle.vector_lines.specs.Wires.{wires_of}
use Rattle.vector_lines.specs.Marks.{Keys, Marks}
use Rattle.vector_lines.specs.Vectors.{AreVectors}
use Rattle.tester_vectors.specs.declared.text.Run.{Run}
use Rattle.tester_vectors.specs.VectorText.{head_line, cycle_line}

-- the lines of `count` cycles of a plan, from one on
abbrev pub lines_of : SocValue → PlanValue → Content → Marks → (from count : ℕ) → List ℕ
lines_of soc plan content marks from count =
    flat_map (cycle_line content marks (planned soc plan) (wires_of plan)) (range_with_len from count)

-- what a run of vectors keeps: its plan is good, the vectors are those of the plan for contents with these keys; the first line, the bytes
-- of a line, and room for some lines
pub record IsRunOf (keys : Keys) (soc : SocValue) (plan : PlanValue) (run : Run) : Type 0 where
  pub good : IsGoodAlone soc plan
  pub vectors : AreVectors keys soc plan run.vectors
  pub head : run.head.items ≡ head_line (wires_of plan) plan.cycles
  pub line : run.line ≡ 2 * wires_of plan + 2
  pub narrow : wires_of plan ≤ 256
  pub some : 1 ≤ run.lines
  pub fits : run.lines * run.line ≤ length run.block.items

abbrev pub IsRun : Keys → Run → Type 0
IsRun keys run = IsRunOf keys (soc_value run.soc.now) (plan_value run.plan.now) run

-- it is of the same plan of the same chip
pub record IsSamePlan (old new : Run) : Type 0 where
  pub soc : new.soc.now ≡ old.soc.now
  pub plan : new.plan.now ≡ old.plan.now
