use Rattle.std.proofs.Common.{◌≡◌, None, Some, List, ℕ, IfOk, option_map, ap, subst}
use Rattle.soc_model.specs.Chips.{soc_value}
use Rattle.soc_model.specs.SoundChips.{IsSoundChip}
use Rattle.plan_model.specs.Plans.{PlanValue}
use Rattle.plan_model.specs.Views.{limits_value}
use Rattle.planner.specs.Plans.{IsPlanned}
use Rattle.split_plan.specs.Parts.{SplitValue, split_chip, split_limits, split_of}
use Rattle.plan_commands.specs.SplitText.{split_line, split_refusal, split_text}
use Rattle.plan_commands.proofs.PartsServed.{none_passed, passed_first}
use Rattle.commands.proofs.FileStages.{gives_text, gives_line}
use Rattle.plan_commands.proofs.splitting.answer_split.Goals as goal

pub returns-in-Ok : goal.returns-in-Ok
returns-in-Ok c =
    let chip = soc_value c.args.soc.now in
    let bounds = limits_value c.args.limits.now in
    let sound : IsSoundChip (split_chip bounds c.args.most chip) = subst (λ (s : SplitValue). IsSoundChip s.soc) c.in-Ok.ensures.parts c.in-Ok.ensures.sound_chip in
    let none : split_refusal chip bounds c.args.most ≡ None = ap (option_map split_line) (none_passed (split_chip bounds c.args.most chip) sound.size) in
    gives_text (split_refusal chip bounds c.args.most) (λ (text : List ℕ). (value : PlanValue) × IsPlanned (split_chip bounds c.args.most chip) (split_limits bounds c.args.most chip) value × (text ≡ split_text (split_of chip bounds c.args.most) value)) c.planned_split.result c.answered_with.result none
    (subst (λ (s : SplitValue). IfOk c.planned_split.result (λ text. (value : PlanValue) × IsPlanned s.soc s.limits value × (text.items ≡ split_text s value))) c.in-Ok.ensures.parts c.planned_split.ensures)
    c.answered_with.ensures

pub returns-in-Err-Limit : goal.returns-in-Err-Limit
returns-in-Err-Limit c =
    let chip = soc_value c.args.soc.now in
    let bounds = limits_value c.args.limits.now in
    let passed = rw c.in-Err-Limit.field-0-is at c.in-Err-Limit.ensures.refused in
    let some : split_refusal chip bounds c.args.most ≡ Some (split_line (record { which = c.in-Err-Limit.which; value = c.in-Err-Limit.value })) = ap (option_map split_line) (passed_first (split_chip bounds c.args.most chip) c.in-Err-Limit.which c.in-Err-Limit.value passed.0) in
    gives_line (split_refusal chip bounds c.args.most) (split_line (record { which = c.in-Err-Limit.which; value = c.in-Err-Limit.value })) (λ (text : List ℕ). (value : PlanValue) × IsPlanned (split_chip bounds c.args.most chip) (split_limits bounds c.args.most chip) value × (text ≡ split_text (split_of chip bounds c.args.most) value)) c.split_line.result c.refused_with.result some
    c.split_line.ensures.text c.split_line.ensures.line c.refused_with.ensures
