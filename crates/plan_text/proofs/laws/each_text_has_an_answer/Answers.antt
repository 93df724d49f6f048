use Rattle.plan_text.proofs.Exact.{each_plan_text}
use Rattle.plan_text.proofs.laws.each_text_has_an_answer.Goals as goal

pub returns : goal.returns
returns c = each_plan_text
