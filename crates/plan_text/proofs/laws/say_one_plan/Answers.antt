use Rattle.plan_text.proofs.ReadPlans.{reads_plans}
use Rattle.plan_text.proofs.laws.say_one_plan.Goals as goal

pub texts_are_settled-requires-after_bounds : goal.texts_are_settled-requires-after_bounds
texts_are_settled-requires-after_bounds c κs = reads_plans
