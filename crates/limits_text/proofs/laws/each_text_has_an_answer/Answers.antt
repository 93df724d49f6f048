use Rattle.limits_text.proofs.OneAnswer.{each_text}
use Rattle.limits_text.proofs.laws.each_text_has_an_answer.Goals as goal

pub returns : goal.returns
returns c = each_text
