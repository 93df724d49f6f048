use Rattle.limits_text.proofs.PrintedTexts.{printed_read}
use Rattle.limits_text.proofs.laws.printed_limits_are_read.Goals as goal

pub returns : goal.returns
returns c = printed_read
