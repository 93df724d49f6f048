use Rattle.limits_text.proofs.OneAnswer.{answered}
use Rattle.limits_text.proofs.laws.texts_are_answered.Goals as goal

pub returns : goal.returns
returns c = answered
