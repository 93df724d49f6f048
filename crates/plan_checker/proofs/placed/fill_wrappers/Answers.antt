use Rattle.std.proofs.Common.{◌+◌, ◌∙◌, refl, arith}
use Rattle.soc_model.specs.Chips.{soc_value, module_value}
use Rattle.plan_model.specs.Views.{plan_value}
use Rattle.plan_checker.proofs.Walking.{all_walked, walked_more}
use Rattle.plan_checker.proofs.placed.fill_wrappers.Goals as goal

pub loop-place-init : goal.loop-place-init
loop-place-init c = λ p m w less. absurd (omega (arith, less))

pub loop-place-preserved : goal.loop-place-preserved
loop-place-preserved c =
    walked_more (soc_value c.args.from.now.soc.now) (plan_value c.args.from.now.plan.now) c.loop-place.walked c.loop-place.place (c.loop-place.place + 1) (module_value c.module_at.result.now) c.mode_wrappers-wrappers.result refl
    (omega (arith, c.loop-place-test.true, c.module_count-place-end.ensures, c.requires.room, c.loop-place.auto.walked)) c.module_at.ensures c.mode_wrappers-wrappers.ensures c.loop-place.invariant

pub returns : goal.returns
returns c = all_walked (soc_value c.args.from.now.soc.now) (plan_value c.args.from.now.plan.now) c.loop-place.walked c.loop-place.place (c.loop-place.auto.walked ∙ c.requires.room) (omega (arith, c.loop-place-test.false, c.module_count-place-end.ensures)) c.loop-place.invariant
