use Rattle.std.proofs.Common.{◌≡◌, ◌+◌, ◌∙◌, ap, length, subst, sym, refl, slice_get, arith}
use Rattle.soc_model.specs.SoundChips.{IsSoundChip}
use Rattle.live_tests.specs.PlacedPlans.{PlacedPlanValue}
use Rattle.controls.specs.Tests.{tam_before}
use Rattle.controls.proofs.Placed.{module_more, modules_all, modules_none, tam_before-small, tam_none, tam_there}
use Rattle.controls.proofs.placing.controlled_tests.Goals as goal
use Rattle.controls.proofs.placing.controlled_tests.Goals.{then-has_tam_test, else-has_tam_test}

pub loop-place-init : goal.loop-place-init
loop-place-init c = (refl, modules_none c.args.placed.now.soc c.args.placed.now.plan c.new-tests.ensures.items)

pub overflow_add-before : goal.overflow_add-before
overflow_add-before c = omega (arith, c.loop-place.invariant.0, tam_before-small c.loop-place.place (subst (λ (p : PlacedPlanValue). IsSoundChip p.soc) c.placed.view_is c.placed.invariant.sound))

pub loop-place-preserved : goal.loop-place-preserved
loop-place-preserved c =
    let soc = c.args.placed.now.soc in
    let place = c.loop-place.place in
    let at = ap (λ (p : PlacedPlanValue). slice_get p.soc.modules place) (sym c.placed.view_is) ∙ c.module_at-module.ensures in
    let counted : c.if-has_tam_test.before ≡ tam_before soc (place + 1) = elim c.if-has_tam_test.branch [
      | then-has_tam_test w ↦ w.before-is ∙ tam_there soc place at c.has_tam_test.ensures w.if-has_tam_test.true c.loop-place.invariant.0
      | else-has_tam_test w ↦ w.before-is ∙ tam_none soc place at c.has_tam_test.ensures w.if-has_tam_test.false c.loop-place.invariant.0
    ] in (
      counted,
      module_more soc c.args.placed.now.plan c.loop-place.tests.items place c.loop-place.invariant.0 at c.in_ok-push_module.ensures c.loop-place.invariant.1,
    )

pub returns : goal.returns
returns c =
    let many = ap (λ (p : PlacedPlanValue). length p.soc.modules) c.placed.view_is in
    modules_all c.args.placed.now.soc c.args.placed.now.plan c.loop-place.tests.items c.loop-place.place (omega (arith, c.loop-place-test.false, c.module_count-place-end.ensures, many)) c.loop-place.invariant.1
