use Rattle.std.proofs.Common.{◌+◌, ◌-◌, ◌++◌, map, arith}
use Rattle.std.specs.List.{range_with_len}
use Rattle.tester_commands.specs.DataParts.{made_byte}
use Rattle.tester_commands.specs.Sending.{waiting}
use Rattle.tester_commands.proofs.MadeLines.{map_split, map_rest, first_value}
use Rattle.tester_commands.proofs.SentTexts.{nothing_sent, put_then, failed_put, sent_more, failed_within}
use Rattle.tester_commands.proofs.blocks.Block.bits.Goals as goal

pub loop-done-init : goal.loop-done-init
loop-done-init g c = record {
  room = c.requires.room;
  faults = omega arith;
  within = omega arith;
  small = c.requires.first;
  value = first_value c.args.line c.requires.first;
  sent = nothing_sent g.K.Sink.is_put g.K.Sink.written c.args.out.now (waiting c.args.self.now);
}

pub returns-in-Err-clause-failed : goal.returns-in-Err-clause-failed
returns-in-Err-clause-failed g c =
    failed_within g.K.Sink.is_put g.K.Sink.written g.K.Sink.faults c.args.out.now c.loop-done.out c.settle.new.out (waiting c.args.self.now) (map (made_byte c.args.line) (range_with_len 0 c.loop-done.done)) (waiting c.loop-done.self)
    (map (made_byte c.args.line) (range_with_len c.loop-done.done c.some_bits-more.result.0)) (map (made_byte c.args.line) (range_with_len (c.loop-done.done + c.some_bits-more.result.0) (c.args.count - (c.loop-done.done + c.some_bits-more.result.0)))) (map (made_byte c.args.line) (range_with_len 0 c.args.count))
    c.loop-done.invariant.faults c.loop-done.invariant.sent
    (failed_put g.K.Sink.is_put g.K.Sink.written g.K.Sink.faults c.loop-done.out c.settle.new.out (waiting c.some_bits-more.new.self) (waiting c.loop-done.self ++ map (made_byte c.args.line) (range_with_len c.loop-done.done c.some_bits-more.result.0)) (c.some_bits-more.ensures.put c.loop-done.done c.loop-done.invariant.value) c.in-Err.ensures.failed)
    (map_rest (made_byte c.args.line) c.loop-done.done c.some_bits-more.result.0 c.args.count (omega (arith, c.some_bits-more.ensures.within, c.loop-done.invariant.within)))

pub loop-done-preserved : goal.loop-done-preserved
loop-done-preserved g c = record {
  room = c.in-Ok.ensures.room;
  faults = omega (arith, c.loop-done.invariant.faults, c.settle.ensures.faults);
  within = omega (arith, c.some_bits-more.ensures.within, c.loop-done.invariant.within);
  small = c.some_bits-more.ensures.small;
  value = c.some_bits-more.ensures.next c.loop-done.done c.loop-done.invariant.value;
  sent = sent_more g.K.Sink.is_put g.K.Sink.written c.args.out.now c.loop-done.out c.settle.new.out (waiting c.args.self.now) (map (made_byte c.args.line) (range_with_len 0 c.loop-done.done)) (waiting c.loop-done.self)
      (map (made_byte c.args.line) (range_with_len c.loop-done.done c.some_bits-more.result.0)) (waiting c.settle.new.self) (map (made_byte c.args.line) (range_with_len 0 (c.loop-done.done + c.some_bits-more.result.0)))
      c.loop-done.invariant.sent
      (put_then g.K.Sink.is_put g.K.Sink.written c.loop-done.out c.settle.new.out (waiting c.loop-done.self) (map (made_byte c.args.line) (range_with_len c.loop-done.done c.some_bits-more.result.0)) (waiting c.some_bits-more.new.self) (waiting c.settle.new.self) (c.some_bits-more.ensures.put c.loop-done.done c.loop-done.invariant.value) c.in-Ok.ensures.sent)
      (map_split (made_byte c.args.line) c.loop-done.done c.some_bits-more.result.0);
}
