-- The text of a plan with test data in each form for testers.
use Rattle.std.specs.Prelude.{ℕ, List}
use Rattle.soc_model.specs.Chips.{SocValue}
use Rattle.plan_model.specs.Plans.{PlanValue}
use Rattle.vector_lines.specs.Wires.{wires_of}
use Rattle.test_data.specs.DataWords.{EntryValue}
use Rattle.cycle_texts.specs.Rows.{CycleRow}
use Rattle.controls.specs.Controls.{controls}
use Rattle.cycle_texts.specs.ProgramText.{PartOf, program_text, row_at}
use Rattle.tester_forms.specs.StilText.{stil_head, stil_line, stil_tail}
use Rattle.tester_forms.specs.Dumps.{dump_head, dump_part, dump_tail}
use Rattle.tester_forms.specs.VerilogText.{verilog_head, verilog_line, verilog_tail}
use Rattle.tester_commands.specs.DataContents.{data_content, data_marks}
use Rattle.tester_commands.specs.RetargetText.{retarget_text}
use Rattle.tester_commands.specs.declared.ending.RunForm.{RunForm}
use Rattle.tester_commands.specs.declared.ending.RunForm.TheVariants as form

-- the bits and marks of a cycle, as the vector text with the contents of the data has them, with the controls of the cycle
abbrev pub data_row : SocValue → PlanValue → List EntryValue → (cycle : ℕ) → CycleRow
data_row soc plan es = row_at soc plan (data_content soc es) (data_marks soc es)

-- what stands before the first cycle, the part of each, and what stands behind the last one, with the contents of the data
abbrev pub data_program : (head : List ℕ) → PartOf → (tail : List ℕ) → SocValue → PlanValue → List EntryValue → List ℕ
data_program head part tail soc plan es = program_text head part tail soc plan (data_content soc es) (data_marks soc es)

-- ---- the programs

unfoldable pub stil_program : SocValue → PlanValue → List EntryValue → List ℕ
stil_program soc plan es =
    data_program (stil_head soc.name (wires_of plan) (controls soc)) (λ c before row. stil_line row) stil_tail soc plan es

unfoldable pub vcd_program : SocValue → PlanValue → List EntryValue → List ℕ
vcd_program soc plan es = data_program (dump_head soc plan) (dump_part soc plan) (dump_tail plan) soc plan es

unfoldable pub verilog_program : SocValue → PlanValue → List EntryValue → List ℕ
verilog_program soc plan es =
    data_program (verilog_head (wires_of plan) (controls soc)) (λ c before row. verilog_line row) verilog_tail soc plan es

-- ---- the whole text with data

abbrev pub run_text : RunForm → SocValue → PlanValue → List EntryValue → List ℕ
run_text form.Vectors soc plan es = retarget_text soc plan es
run_text form.Stil soc plan es = stil_program soc plan es
run_text form.Vcd soc plan es = vcd_program soc plan es
run_text form.Verilog soc plan es = verilog_program soc plan es
