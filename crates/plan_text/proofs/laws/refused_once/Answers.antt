use Rattle.plan_text.proofs.ReadPlans.{reads_plans}
use Rattle.plan_text.proofs.laws.refused_once.Goals as goal

pub texts_are_settled-requires-after_bounds : goal.texts_are_settled-requires-after_bounds
texts_are_settled-requires-after_bounds c κs = reads_plans
