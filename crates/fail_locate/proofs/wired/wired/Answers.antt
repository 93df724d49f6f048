use Rattle.std.proofs.Common.{subst}
use Rattle.soc_model.specs.Chips.{module_value}
use Rattle.plan_model.specs.Rules.{IsGoodAlone, Wrappers}
use Rattle.live_tests.specs.PlacedPlans.{PlacedPlanValue}
use Rattle.live_tests.proofs.Placing.{always_wrapped}
use Rattle.fail_locate.proofs.wired.wired.Goals as goal

pub wired_in-requires-clause-wrapper : goal.wired_in-requires-clause-wrapper
wired_in-requires-clause-wrapper c =
    let m = module_value c.args.«module».now in
    c.in-Some.ensures c.args.placed.now.plan m (c.wrappers.ensures m c.requires.module_there)

pub unreachable-requires : goal.unreachable-requires
unreachable-requires c =
    let m = module_value c.args.«module».now in
    let good = subst (λ (p : PlacedPlanValue). IsGoodAlone p.soc p.plan) c.placed.view_is c.placed.invariant.good in
    always_wrapped c.args.placed.now.soc c.args.placed.now.plan (good Wrappers).1 c.args.place c.requires.test_there.0 m c.args.test.now c.requires.module_there c.requires.test_there.1 c.requires.live c.requires.tam
    (c.in-None.ensures c.args.placed.now.plan m (c.wrappers.ensures m c.requires.module_there))
