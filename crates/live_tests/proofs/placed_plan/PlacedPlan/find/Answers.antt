use Rattle.std.proofs.Common.{◌∙◌, ap}
use Rattle.std.specs.Prelude.{find}
use Rattle.live_tests.specs.Placed.{is_called, placed_tests}
use Rattle.live_tests.specs.PlacedPlans.{PlacedPlanValue}
use Rattle.live_tests.proofs.FoundPlaced.{names_of_placed}
use Rattle.live_tests.proofs.placed_plan.PlacedPlan.find.Goals as goal

pub named-requires : goal.named-requires
named-requires c = names_of_placed c.self.invariant

pub returns : goal.returns
returns c = c.named.ensures ∙ ap (find (is_called c.args.id)) c.self.invariant.places.tests ∙ ap (λ (p : PlacedPlanValue). find (is_called c.args.id) (placed_tests p.soc p.plan)) c.self.view_is
