use Rattle.std.proofs.Common.{refl}
use Rattle.plan_model.specs.Views.{bound_value, plan_value}
use Rattle.plan_improver.proofs.OtherBounds.{good_bounded}
use Rattle.plan_improver.proofs.improving.with_greater_bound.Goals as goal

pub greater_bound-requires-clause-good : goal.greater_bound-requires-clause-good
greater_bound-requires-clause-good c = λ n bound. bound (plan_value c.args.plan) c.requires.good

pub returns : goal.returns
returns c = record {
  good = good_bounded c.args.problem.now.soc c.args.problem.now.limits (plan_value c.args.plan) (bound_value c.in_ok-bound.bound) c.requires.good;
  plan_is = refl;
  greater = c.in_ok-bound.ensures.greater;
  accepted = c.in_ok-bound.ensures.accepted;
  at_least = c.in_ok-bound.ensures.at_least;
}
