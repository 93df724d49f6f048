use Rattle.plan_model.specs.Views.{limits_value}
use Rattle.leaf_bounds.proofs.LeafSums.{power_use-is}
use Rattle.leaf_bounds.proofs.leaf_costs.power_use.Goals as goal

pub returns-clause-share : goal.returns-clause-share
returns-clause-share c = λ l is own.
    power_use-is (limits_value c.args.limits.now) c.args.near l c.args.cycles c.in-Some.is (c.drawn_by-drawn.ensures.sum l is own) c.whole_limits.ensures.share
