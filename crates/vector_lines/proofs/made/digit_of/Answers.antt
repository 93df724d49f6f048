use Rattle.std.proofs.Common.{refl}
use Rattle.vector_lines.proofs.Digits.{digit_at}
use Rattle.vector_lines.proofs.made.digit_of.Goals as goal

pub returns : goal.returns
returns c = digit_at _ c.args.value _ refl c.requires
