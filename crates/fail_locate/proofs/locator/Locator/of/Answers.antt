use Rattle.std.proofs.Common.{sym, subst}
use Rattle.plan_model.specs.Plans.{planned}
use Rattle.live_tests.specs.PlacedPlans.{PlacedPlanValue}
use Rattle.fail_locate.specs.Wired.{AreWired}
use Rattle.fail_locate.proofs.locator.Locator.of.Goals as goal

pub with_tests-requires-clause-wired : goal.with_tests-requires-clause-wired
with_tests-requires-clause-wired c = subst (λ (p : PlacedPlanValue). AreWired p.soc p.plan (planned p.soc p.plan) c.in_ok-tests.tests.items) (sym c.placed.view_is) c.in_ok-tests.ensures
