use Rattle.limits_text.proofs.OneAnswer.{one_reading}
use Rattle.limits_text.proofs.laws.texts_have_one_answer.Goals as goal

pub returns : goal.returns
returns c = one_reading
