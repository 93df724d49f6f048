use Rattle.plan_model.proofs.GoodPlansRunRight.{every_good_plan_is_right}
use Rattle.plan_model.proofs.laws.good_plans_run_right.Goals as goal

pub returns : goal.returns
returns c = every_good_plan_is_right
