use Rattle.plan_text.proofs.Exact.{answered}
use Rattle.plan_text.proofs.laws.plans_are_answered.Goals as goal

pub returns : goal.returns
returns c = answered
