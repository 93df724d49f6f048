use Rattle.std.proofs.Common.{subst}
use Rattle.soc_model.specs.Chips.{module_value}
use Rattle.soc_model.specs.SoundChips.{IsSoundChip}
use Rattle.plan_model.specs.Rules.{IsGoodAlone, Wrappers}
use Rattle.live_tests.specs.PlacedPlans.{PlacedPlanValue}
use Rattle.live_tests.proofs.Placing.{wrapped_test}
use Rattle.controls.proofs.Placed.{test_is}
use Rattle.controls.proofs.placing.controlled_test.Goals as goal

pub phases_of-requires : goal.phases_of-requires
phases_of-requires c =
    let m = module_value c.args.«module».now in
    let sound = subst (λ (p : PlacedPlanValue). IsSoundChip p.soc) c.placed.view_is c.placed.invariant.sound in
    let good = subst (λ (p : PlacedPlanValue). IsGoodAlone p.soc p.plan) c.placed.view_is c.placed.invariant.good in (
      c.args.placed.now.plan,
      wrapped_test c.args.placed.now.soc c.args.placed.now.plan sound (good Wrappers).1 c.args.place c.requires.test_there.0 m c.args.test.now c.wrappers-wrappers.result
          c.requires.module_there c.requires.test_there.1 c.requires.live (c.wrappers-wrappers.ensures m c.requires.module_there),
    )

pub returns : goal.returns
returns c =
    let m = module_value c.args.«module».now in
    test_is c.args.placed.now.plan c.args.place c.args.before m c.args.test.now c.test-run.ensures (c.phases_of.ensures c.args.placed.now.plan (c.wrappers-wrappers.ensures m c.requires.module_there))
