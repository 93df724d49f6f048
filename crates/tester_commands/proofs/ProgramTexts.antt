-- What a form of a language writes is the text of the language.
use Rattle.std.proofs.Common.{◌≡◌, ℕ, List, ap, ◌∙◌}
use Rattle.soc_model.specs.Chips.{SocValue}
use Rattle.plan_model.specs.Plans.{PlanValue}
use Rattle.vector_lines.specs.Wires.{wires_of}
use Rattle.controls.specs.Controls.{controls}
use Rattle.test_data.specs.DataWords.{EntryValue}
use Rattle.cycle_texts.specs.ProgramText.{PartOf}
use Rattle.tester_forms.specs.StilText.{stil_head, stil_line, stil_tail}
use Rattle.tester_forms.specs.Dumps.{dump_head, dump_part, dump_tail}
use Rattle.tester_forms.specs.VerilogText.{verilog_head, verilog_line, verilog_tail}
use Rattle.tester_commands.specs.RunTexts.{data_program, stil_program, vcd_program, verilog_program}

pub stil_written : (head : List ℕ) (soc : SocValue) (plan : PlanValue) (es : List EntryValue) → head ≡ stil_head soc.name (wires_of plan) (controls soc) → data_program head (λ c before row. stil_line row) stil_tail soc plan es ≡ stil_program soc plan es
unfolding stil_program
stil_written head soc plan es e = ap (λ (h : List ℕ). data_program h (λ c before row. stil_line row) stil_tail soc plan es) e

pub vcd_written : (head : List ℕ) (part : PartOf) (tail : List ℕ) (soc : SocValue) (plan : PlanValue) (es : List EntryValue) → head ≡ dump_head soc plan → part ≡ dump_part soc plan → tail ≡ dump_tail plan → data_program head part tail soc plan es ≡ vcd_program soc plan es
unfolding vcd_program
vcd_written head part tail soc plan es e f g =
    ap (λ (h : List ℕ). data_program h part tail soc plan es) e
    ∙ ap (λ (p : PartOf). data_program (dump_head soc plan) p tail soc plan es) f
    ∙ ap (λ (t : List ℕ). data_program (dump_head soc plan) (dump_part soc plan) t soc plan es) g

pub verilog_written : (head : List ℕ) (soc : SocValue) (plan : PlanValue) (es : List EntryValue) → head ≡ verilog_head (wires_of plan) (controls soc) → data_program head (λ c before row. verilog_line row) verilog_tail soc plan es ≡ verilog_program soc plan es
unfolding verilog_program
verilog_written head soc plan es e = ap (λ (h : List ℕ). data_program h (λ c before row. verilog_line row) verilog_tail soc plan es) e
