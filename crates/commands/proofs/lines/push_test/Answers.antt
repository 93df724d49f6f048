use Rattle.std.proofs.Common.{arith}
use Rattle.commands.proofs.LineFacts.{dotted_plain}
use Rattle.commands.proofs.lines.push_test.Goals as goal

pub returns-clause-plain : goal.returns-clause-plain
returns-clause-plain c = dotted_plain c.push_dotted.result c.args.to.now.items c.push_dotted.new.to.items c.args.id.now.module c.args.id.now.test (omega arith) (omega arith) c.push_dotted.ensures.ok
