use Rattle.std.proofs.Common.{arith}
use Rattle.outside.proofs.EndTable.{ENDS_at}
use Rattle.outside.proofs.words.ends_word.Goals as goal

pub returns : goal.returns
returns c = ENDS_at c.args.b (omega (arith))
