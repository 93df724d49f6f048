use Rattle.std.proofs.Common.{◌+◌, ◌-◌, arith}
use Rattle.tester_commands.specs.DataText.{pattern_line}
use Rattle.tester_commands.specs.DataParts.{made_lines, made_pattern}
use Rattle.tester_commands.specs.Sending.{waiting}
use Rattle.tester_commands.proofs.MadeLines.{lines_split, lines_rest}
use Rattle.tester_commands.proofs.SentTexts.{nothing_sent, sent_more, failed_within}
use Rattle.tester_commands.proofs.blocks.Block.patterns.Goals as goal

pub loop-done-init : goal.loop-done-init
loop-done-init g c = record { room = c.requires.room; faults = omega arith; sent = nothing_sent g.K.Sink.is_put g.K.Sink.written c.args.out.now (waiting c.args.self.now) }

pub returns-in-Err-clause-failed : goal.returns-in-Err-clause-failed
returns-in-Err-clause-failed g c =
    failed_within g.K.Sink.is_put g.K.Sink.written g.K.Sink.faults c.args.out.now c.loop-done.out c.pattern.new.out (waiting c.args.self.now) (made_lines c.args.base c.args.wanted 1 c.loop-done.done) (waiting c.loop-done.self)
    (pattern_line (made_pattern c.args.base c.args.wanted (c.loop-done.done + 1))) (made_lines c.args.base c.args.wanted (1 + (c.loop-done.done + 1)) (c.args.wanted.patterns - (c.loop-done.done + 1))) (made_lines c.args.base c.args.wanted 1 c.args.wanted.patterns)
    c.loop-done.invariant.faults c.loop-done.invariant.sent c.in-Err.ensures.failed (lines_rest (λ k. pattern_line (made_pattern c.args.base c.args.wanted k)) c.loop-done.done c.args.wanted.patterns (omega arith))

pub loop-done-preserved : goal.loop-done-preserved
loop-done-preserved g c = record {
  room = c.in-Ok.ensures.room;
  faults = omega (arith, c.loop-done.invariant.faults, c.pattern.ensures.faults);
  sent = sent_more g.K.Sink.is_put g.K.Sink.written c.args.out.now c.loop-done.out c.pattern.new.out (waiting c.args.self.now) (made_lines c.args.base c.args.wanted 1 c.loop-done.done) (waiting c.loop-done.self)
      (pattern_line (made_pattern c.args.base c.args.wanted (c.loop-done.done + 1))) (waiting c.pattern.new.self) (made_lines c.args.base c.args.wanted 1 (c.loop-done.done + 1))
      c.loop-done.invariant.sent c.in-Ok.ensures.sent (lines_split (λ k. pattern_line (made_pattern c.args.base c.args.wanted k)) c.loop-done.done);
}
