use Rattle.std.proofs.Common.{◌≡◌, ◌∙◌, ap, sym, length, slice_get, arith}
use Rattle.std.proofs.lemmas.List.{length-map}
use Rattle.soc_model.specs.Chips.{module_value}
use Rattle.live_tests.specs.PlacedPlans.{PlacedPlanValue}
use Rattle.fail_locate.proofs.KeptTests.{placed_from, no_modules, modules_more, all_modules}
use Rattle.fail_locate.proofs.wired.wired_tests.Goals as goal

pub loop-place-init : goal.loop-place-init
loop-place-init c = no_modules c.args.placed.now.soc c.args.placed.now.plan c.args.placed.now.soc.modules c.new-tests.result.items c.new-tests.ensures.items

pub loop-place-preserved : goal.loop-place-preserved
loop-place-preserved c =
    let at = ap (λ (p : PlacedPlanValue). slice_get p.soc.modules c.loop-place.place) (sym c.placed.view_is) ∙ c.module_at.ensures in
    modules_more c.args.placed.now.soc c.args.placed.now.plan c.args.placed.now.soc.modules c.loop-place.place (module_value c.module_at.result.now) c.push_module.new.tests.items at
    (c.in_ok-push_module.ensures (placed_from c.args.placed.now.plan c.args.placed.now.soc.modules c.loop-place.place) c.loop-place.invariant)

pub returns : goal.returns
returns c =
    let same_many : length c.args.placed.now.soc.modules ≡ length c.placed.inside.soc.now.modules.entries = ap (λ (p : PlacedPlanValue). length p.soc.modules) (sym c.placed.view_is) ∙ length-map c.placed.inside.soc.now.modules.entries _ in
    all_modules c.args.placed.now.soc c.args.placed.now.plan c.loop-place.place c.loop-place.tests.items (omega (arith, c.loop-place-test.false, c.len-place-end.ensures.len, same_many)) c.loop-place.invariant
