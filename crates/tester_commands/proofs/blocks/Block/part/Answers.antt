use Rattle.std.proofs.lemmas.Result.{on_ok_weaker, on_err_weaker}
use Rattle.tester_commands.specs.DataParts.{made_lines}
use Rattle.tester_commands.specs.Sending.{waiting}
use Rattle.tester_commands.proofs.SentTexts.{sent_then, sent_same, failed_later}
use Rattle.tester_commands.proofs.blocks.Block.part.Goals as goal

pub returns-clause-sent : goal.returns-clause-sent
returns-clause-sent g c =
    let part = c.args.part.now in
    on_ok_weaker c.patterns.result (sent_then g.K.Sink.is_put g.K.Sink.written c.args.out.now c.text.new.out c.patterns.new.out (waiting c.args.self.now) part.head.items (waiting c.text.new.self) (made_lines part.base part.wanted 1 part.wanted.patterns) (waiting c.patterns.new.self)
    (sent_same g.K.Sink.is_put g.K.Sink.written c.args.out.now c.text.new.out (waiting c.args.self.now) c.deref.result.now part.head.items (waiting c.text.new.self) c.deref.ensures.value c.in-Ok.ensures.sent)) c.patterns.ensures.sent

pub returns-clause-failed : goal.returns-clause-failed
returns-clause-failed g c =
    let part = c.args.part.now in
    on_err_weaker c.patterns.result (failed_later g.K.Sink.is_put g.K.Sink.written g.K.Sink.faults c.args.out.now c.text.new.out c.patterns.new.out (waiting c.args.self.now) part.head.items (waiting c.text.new.self) (made_lines part.base part.wanted 1 part.wanted.patterns) c.text.ensures.faults
    (sent_same g.K.Sink.is_put g.K.Sink.written c.args.out.now c.text.new.out (waiting c.args.self.now) c.deref.result.now part.head.items (waiting c.text.new.self) c.deref.ensures.value c.in-Ok.ensures.sent)) c.patterns.ensures.failed
