use Rattle.tester_commands.specs.Sending.{waiting}
use Rattle.tester_commands.proofs.SentTexts.{nothing_sent}
use Rattle.tester_commands.proofs.blocks.Block.settle.Goals as goal

pub returns-clause-sent : goal.returns-clause-sent
returns-clause-sent g c = nothing_sent g.K.Sink.is_put g.K.Sink.written c.args.out.now (waiting c.args.self.now)
