use Rattle.plan_text.proofs.Printed.{printed_is_read}
use Rattle.plan_text.proofs.laws.printed_plans_are_read.Goals as goal

pub returns : goal.returns
returns c = printed_is_read
