use Rattle.limits_text.proofs.PrintedTexts.{printed_answered}
use Rattle.limits_text.proofs.laws.printed_limits_are_answered.Goals as goal

pub returns : goal.returns
returns c = printed_answered
