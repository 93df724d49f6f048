use Rattle.std.proofs.Common.{arith}
use Rattle.commands.proofs.LineFacts.{number_plain}
use Rattle.commands.proofs.lines.push_decimal.Goals as goal

pub returns-clause-plain : goal.returns-clause-plain
returns-clause-plain c = number_plain c.push_number.result c.args.to.now.items c.push_number.new.to.items c.args.n (omega arith) c.push_number.ensures.ok
