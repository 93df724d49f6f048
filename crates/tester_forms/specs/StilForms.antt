-- The STIL form of a plan's run.
use Rattle.std.specs.Prelude.{◌≡◌, ◌+◌, ◌*◌, ◌^◌, ◌≤◌, length}
use Rattle.std.specs.List.{sum}
use Rattle.soc_model.specs.Chips.{SocValue}
use Rattle.plan_model.specs.Plans.{PlanValue, widths}
use Rattle.controls.specs.Controls.{controls}
use Rattle.tester_forms.specs.declared.stil_vector.StilForm.{StilForm}
use Rattle.tester_forms.specs.StilText.{stil_head}

-- it is for the wires of a plan and the controls of a chip, begins with their head, and its parts have few bytes
pub record IsStilForm (soc : SocValue) (plan : PlanValue) (form : StilForm) : Type 0 where
  pub wires : form.wires ≡ sum (widths plan)
  pub controls_are : form.controls ≡ length (controls soc)
  pub head : form.head.items ≡ stil_head soc.name (sum (widths plan)) (controls soc)
  pub small : 2 * form.wires + form.controls + 64 ≤ 2 ^ 40
