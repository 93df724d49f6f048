use Rattle.std.proofs.Common.{IfOk, sym, subst}
use Rattle.soc_model.specs.Chips.{soc_value}
use Rattle.plan_model.specs.Plans.{PlanValue}
use Rattle.plan_model.specs.Rules.{IsGoodAlone}
use Rattle.live_tests.specs.Placed.{IsPlaced}
use Rattle.live_tests.proofs.placed.Placed.new.Goals as goal

pub placed_by-placed-requires-clause-good : goal.placed_by-placed-requires-clause-good
placed_by-placed-requires-clause-good c = subst (λ (plan : PlanValue). IsGoodAlone (soc_value c.args.soc.now) plan) (sym c.in_ok-index.ensures) c.requires.good

pub returns : goal.returns
returns c = subst (λ (plan : PlanValue). IfOk c.placed_by-placed.result (IsPlaced (soc_value c.args.soc.now) plan)) c.in_ok-index.ensures c.placed_by-placed.ensures
