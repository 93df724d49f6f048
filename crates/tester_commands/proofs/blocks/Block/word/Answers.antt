use Rattle.std.proofs.Common.{map, arith}
use Rattle.std.specs.List.{range_with_len}
use Rattle.std.proofs.lemmas.Result.{on_ok_weaker, on_err_weaker}
use Rattle.tester_commands.specs.DataText.{bits_word}
use Rattle.tester_commands.specs.DataParts.{made_byte, made_bits}
use Rattle.tester_commands.specs.Sending.{waiting}
use Rattle.tester_commands.proofs.MadeLines.{made_word}
use Rattle.tester_commands.proofs.SentTexts.{sent_same, failed_same}
use Rattle.tester_commands.proofs.blocks.Block.word.Goals as goal

pub returns-clause-sent : goal.returns-clause-sent
returns-clause-sent g c =
    on_ok_weaker c.bits.result (sent_same g.K.Sink.is_put g.K.Sink.written c.args.out.now c.bits.new.out (waiting c.args.self.now) (map (made_byte c.of.result) (range_with_len 0 c.args.count)) (bits_word (made_bits c.args.base c.args.pattern c.args.side c.args.count)) (waiting c.bits.new.self)
    (made_word c.of.result c.args.base c.args.pattern c.args.side c.args.count c.of.ensures.bits (omega arith))) c.bits.ensures.sent

pub returns-clause-failed : goal.returns-clause-failed
returns-clause-failed g c =
    on_err_weaker c.bits.result (failed_same g.K.Sink.is_put g.K.Sink.written g.K.Sink.faults c.args.out.now c.bits.new.out (waiting c.args.self.now) (map (made_byte c.of.result) (range_with_len 0 c.args.count)) (bits_word (made_bits c.args.base c.args.pattern c.args.side c.args.count))
    (made_word c.of.result c.args.base c.args.pattern c.args.side c.args.count c.of.ensures.bits (omega arith))) c.bits.ensures.failed
