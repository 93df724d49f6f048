use Rattle.std.proofs.Common.{◌+◌, ◌++◌, ◌∷◌, ◌∙◌, [], ap, sym, take, drop, get_or, arith, append_assoc}
use Rattle.std.proofs.lemmas.List.{take_more, take-append-drop}
use Rattle.tester_commands.specs.Sending.{waiting}
use Rattle.tester_commands.proofs.SentTexts.{nothing_sent, sent_more, failed_within}
use Rattle.tester_commands.proofs.blocks.Block.text.Goals as goal

pub loop-b-init : goal.loop-b-init
loop-b-init g c = record { room = record { long = c.requires.long; within = c.requires.within }; faults = omega arith; sent = nothing_sent g.K.Sink.is_put g.K.Sink.written c.args.out.now (waiting c.args.self.now) }

pub returns-in-Err-clause-failed : goal.returns-in-Err-clause-failed
returns-in-Err-clause-failed g c =
    failed_within g.K.Sink.is_put g.K.Sink.written g.K.Sink.faults c.args.out.now c.loop-b.out c.byte.new.out (waiting c.args.self.now) (take c.loop-b.b-index c.args.text.now) (waiting c.loop-b.self) (get_or c.args.text.now c.loop-b.b-index 0 ∷ []) (drop (c.loop-b.b-index + 1) c.args.text.now) c.args.text.now
    c.loop-b.invariant.faults c.loop-b.invariant.sent c.in-Err.ensures.failed
    (sym (append_assoc (take c.loop-b.b-index c.args.text.now) (get_or c.args.text.now c.loop-b.b-index 0 ∷ []) (drop (c.loop-b.b-index + 1) c.args.text.now))
    ∙ ap (λ t. t ++ drop (c.loop-b.b-index + 1) c.args.text.now) (sym (take_more c.args.text.now c.loop-b.b-index 0 (omega arith))) ∙ take-append-drop (c.loop-b.b-index + 1) c.args.text.now)

pub loop-b-preserved : goal.loop-b-preserved
loop-b-preserved g c = record {
  room = c.in-Ok.ensures.room;
  faults = omega (arith, c.loop-b.invariant.faults, c.byte.ensures.faults);
  sent = sent_more g.K.Sink.is_put g.K.Sink.written c.args.out.now c.loop-b.out c.byte.new.out (waiting c.args.self.now) (take c.loop-b.b-index c.args.text.now) (waiting c.loop-b.self) (get_or c.args.text.now c.loop-b.b-index 0 ∷ []) (waiting c.byte.new.self) (take (c.loop-b.b-index + 1) c.args.text.now)
      c.loop-b.invariant.sent c.in-Ok.ensures.sent (sym (take_more c.args.text.now c.loop-b.b-index 0 (omega arith)));
}
