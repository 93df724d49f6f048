use Rattle.plan_text.proofs.Exact.{printed_answered}
use Rattle.plan_text.proofs.laws.printed_plans_are_answered.Goals as goal

pub returns : goal.returns
returns c = printed_answered
