use Rattle.std.proofs.Common.{◌∙◌, ap}
use Rattle.live_tests.specs.Placed.{placed_tests}
use Rattle.live_tests.specs.PlacedPlans.{PlacedPlanValue}
use Rattle.live_tests.proofs.placed_plan.PlacedPlan.tests.Goals as goal

pub returns : goal.returns
returns c = c.deref.ensures.value ∙ c.self.invariant.places.tests ∙ ap (λ (p : PlacedPlanValue). placed_tests p.soc p.plan) c.self.view_is
