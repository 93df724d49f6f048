-- The rows of a plan's cycles beside the lines of its vectors.
use Rattle.std.proofs.Common.{◌≡◌, refl}
use Rattle.soc_model.specs.Chips.{SocValue}
use Rattle.plan_model.specs.Plans.{PlanValue}
use Rattle.plan_model.specs.Runs.{Content}
use Rattle.vector_lines.specs.Wires.{wires_of}
use Rattle.vector_lines.specs.Marks.{Marks}
use Rattle.tester_vectors.specs.VectorText.{cycle_line, marked_text}
use Rattle.cycle_texts.specs.ProgramText.{row_at, vectors_of_rows}

pub vectors_shown : (soc : SocValue) (plan : PlanValue) (content : Content) (marks : Marks) → marked_text soc plan content marks ≡ vectors_of_rows (wires_of plan) plan.cycles (row_at soc plan content marks)
unfolding cycle_line row_at
vectors_shown soc plan content marks = refl
