-- The text of a plan's run with a part for each cycle: what the wires carry and compare in it, and the controls.
use Rattle.std.specs.Prelude.{ℕ, zero, suc, ◌++◌, List, Option, None, Some, codes}
use Rattle.std.specs.List.{flat_map, range_with_len}
use Rattle.soc_model.specs.Chips.{SocValue}
use Rattle.plan_model.specs.Plans.{PlanValue, planned}
use Rattle.plan_model.specs.Runs.{Content}
use Rattle.vector_lines.specs.Wires.{wires_of}
use Rattle.vector_lines.specs.Marks.{Marks}
use Rattle.tester_vectors.specs.VectorText.{driven_text, compared_text, head_line}
use Rattle.cycle_texts.specs.Rows.{CycleRow}
use Rattle.controls.specs.Controls.{control_row}

-- what stands on the wires and the controls at a cycle: the bits and marks are those of the line of the cycle in a text of vectors
unfoldable pub row_at : SocValue → PlanValue → Content → Marks → (cycle : ℕ) → CycleRow
row_at soc plan content marks c = record {
  driven = driven_text content (planned soc plan) (wires_of plan) c;
  compared = compared_text marks (planned soc plan) (wires_of plan) c;
  controls = control_row soc plan c;
}

-- the row of the cycle before, where there is one
abbrev pub row_before : (row : ℕ → CycleRow) → (cycle : ℕ) → Option CycleRow
row_before row zero = None
row_before row (suc c) = Some (row c)

-- how the part of a cycle is made: from the row of the cycle before and from its own
abbrev pub PartOf : Type 0
PartOf = ℕ → Option CycleRow → CycleRow → List ℕ

-- the part of a cycle, of rows
abbrev pub part_at : PartOf → (row : ℕ → CycleRow) → (cycle : ℕ) → List ℕ
part_at part row c = part c (row_before row c) (row c)

-- the parts of `count` cycles from one on
abbrev pub parts_of : PartOf → (row : ℕ → CycleRow) → (from count : ℕ) → List ℕ
parts_of part row from count = flat_map (part_at part row) (range_with_len from count)

-- the whole text, for a content whose response bits have these marks
abbrev pub program_text : (head : List ℕ) → PartOf → (tail : List ℕ) → SocValue → PlanValue → Content → Marks → List ℕ
program_text head part tail soc plan content marks =
    head ++ (parts_of part (row_at soc plan content marks) 0 plan.cycles ++ tail)

-- a text of vectors whose lines have the bits and the marks of rows
abbrev pub vectors_of_rows : (wires cycles : ℕ) → (row : ℕ → CycleRow) → List ℕ
vectors_of_rows wires cycles row =
    head_line wires cycles
    ++ flat_map (λ c. (row c).driven ++ (codes " " ++ ((row c).compared ++ codes "\n"))) (range_with_len 0 cycles)
