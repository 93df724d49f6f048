use Rattle.live_tests.proofs.FoundPlaced.{walked_at}
use Rattle.live_tests.proofs.placed_plan.PlacedPlan.wrappers.Goals as goal

pub returns : goal.returns
returns c = walked_at c.self.invariant c.self.view_is c.args.place c.requires c.index.result.now c.index.ensures
