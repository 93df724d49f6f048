-- The Verilog form of a plan's run.
use Rattle.std.specs.Prelude.{◌≡◌, ◌+◌, ◌*◌, ◌^◌, ◌≤◌, length}
use Rattle.std.specs.List.{sum}
use Rattle.soc_model.specs.Chips.{SocValue}
use Rattle.plan_model.specs.Plans.{PlanValue, widths}
use Rattle.controls.specs.Controls.{controls}
use Rattle.tester_forms.specs.declared.verilog_form.VerilogForm.{VerilogForm}
use Rattle.tester_forms.specs.VerilogText.{verilog_head}

-- it is for the wires of a plan and the controls of a chip, begins with their head, and its parts have few bytes
pub record IsVerilogForm (soc : SocValue) (plan : PlanValue) (form : VerilogForm) : Type 0 where
  pub wires : form.wires ≡ sum (widths plan)
  pub controls_are : form.controls ≡ length (controls soc)
  pub head : form.head.items ≡ verilog_head (sum (widths plan)) (controls soc)
  pub small : 3 * form.wires + form.controls + 64 ≤ 2 ^ 40
