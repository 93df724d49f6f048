use Rattle.std.proofs.Common.{arith}
use Rattle.soc_model.specs.Chips.{soc_value}
use Rattle.tester_commands.specs.MadeText.{made_text}
use Rattle.tester_commands.proofs.MadeEndings.{long_written}
use Rattle.tester_commands.proofs.making.write_made_data.Goals as goal

pub returns-then-length-from-clause-written : goal.returns-then-length-from-clause-written
returns-then-length-from-clause-written g c =
    let text = made_text (soc_value c.args.soc.now) c.args.seed in
    long_written text c.len-length.result c.long_line.result c.refused_with-verdict.result (g.K.Sink.faults c.args.out.now) (g.K.Sink.faults c.write_verdict.new.out) (g.K.Sink.written c.args.out.now) (g.K.Sink.written c.write_verdict.new.out) c.write_verdict.result
    (c.len-length.ensures text c.in-Ok.ensures) (omega (arith, c.if-length-from.true, c.from.ensures)) c.long_line.ensures.text c.long_line.ensures.line c.refused_with-verdict.ensures c.write_verdict.ensures.written
