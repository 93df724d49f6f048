use Rattle.std.proofs.Common.{◌+◌, drop, take, map, arith}
use Rattle.tester_commands.specs.DataParts.{part_value, part_text, parts_text}
use Rattle.tester_commands.specs.Sending.{waiting}
use Rattle.tester_commands.proofs.ChipParts.{parts_more, parts_rest}
use Rattle.tester_commands.proofs.SentTexts.{nothing_sent, sent_more, failed_within}
use Rattle.tester_commands.proofs.blocks.Block.parts.Goals as goal

pub loop-part-init : goal.loop-part-init
loop-part-init g c = record { room = c.requires.room; faults = omega arith; sent = nothing_sent g.K.Sink.is_put g.K.Sink.written c.args.out.now (waiting c.args.self.now) }

pub returns-in-Err-clause-failed : goal.returns-in-Err-clause-failed
returns-in-Err-clause-failed g c =
    let ps = c.args.parts.now in
    let i = c.loop-part.part-index in
    failed_within g.K.Sink.is_put g.K.Sink.written g.K.Sink.faults c.args.out.now c.loop-part.out c.part.new.out (waiting c.args.self.now) (parts_text (map part_value (take i ps))) (waiting c.loop-part.self) (part_text (part_value c.part-item.result)) (parts_text (map part_value (drop (i + 1) ps))) (parts_text (map part_value ps))
    c.loop-part.invariant.faults c.loop-part.invariant.sent c.in-Err.ensures.failed (parts_rest ps i c.part-item.result (omega arith) c.part-item.is)

pub loop-part-preserved : goal.loop-part-preserved
loop-part-preserved g c =
    let ps = c.args.parts.now in
    let i = c.loop-part.part-index in
    record {
      room = c.in-Ok.ensures.room;
      faults = omega (arith, c.loop-part.invariant.faults, c.part.ensures.faults);
      sent = sent_more g.K.Sink.is_put g.K.Sink.written c.args.out.now c.loop-part.out c.part.new.out (waiting c.args.self.now) (parts_text (map part_value (take i ps))) (waiting c.loop-part.self) (part_text (part_value c.part-item.result)) (waiting c.part.new.self) (parts_text (map part_value (take (i + 1) ps)))
          c.loop-part.invariant.sent c.in-Ok.ensures.sent (parts_more ps i c.part-item.result (omega arith) c.part-item.is);
    }
