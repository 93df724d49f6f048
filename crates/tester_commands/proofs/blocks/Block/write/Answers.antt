use Rattle.std.proofs.Common.{◌++◌, ◌≤◌, [], ◌∙◌, ap, sym, map, false, List, ℕ, arith, codes}
use Rattle.std.proofs.lemmas.List.{append-nil}
use Rattle.outside.proofs.PieceLemmas.{puts_then}
use Rattle.tester_commands.specs.DataParts.{part_value, parts_text}
use Rattle.tester_commands.specs.Sending.{waiting}
use Rattle.tester_commands.proofs.SentTexts.{sent_then, failed_later, failed_first, failed_put}
use Rattle.tester_commands.proofs.blocks.Block.write.Goals as goal

pub returns-in-Err-clause-failed : goal.returns-in-Err-clause-failed
returns-in-Err-clause-failed g c =
    let title : List ℕ = codes "Data 1\n" in
    let text = parts_text (map part_value c.args.parts.now) in
    failed_put g.K.Sink.is_put g.K.Sink.written g.K.Sink.faults c.args.out.now c.text.new.out (waiting c.args.self.now ++ (title ++ text)) (title ++ text) (ap (λ (w : List ℕ). w ++ (title ++ text)) c.requires.empty)
    (failed_first g.K.Sink.is_put g.K.Sink.written g.K.Sink.faults c.args.out.now c.text.new.out (waiting c.args.self.now) title text c.in-Err.ensures.failed)

pub returns-in-Err-parts-clause-failed : goal.returns-in-Err-parts-clause-failed
returns-in-Err-parts-clause-failed g c =
    let title : List ℕ = codes "Data 1\n" in
    let text = parts_text (map part_value c.args.parts.now) in
    failed_put g.K.Sink.is_put g.K.Sink.written g.K.Sink.faults c.args.out.now c.parts.new.out (waiting c.args.self.now ++ (title ++ text)) (title ++ text) (ap (λ (w : List ℕ). w ++ (title ++ text)) c.requires.empty)
    (failed_later g.K.Sink.is_put g.K.Sink.written g.K.Sink.faults c.args.out.now c.text.new.out c.parts.new.out (waiting c.args.self.now) title (waiting c.text.new.self) text c.text.ensures.faults c.in-Ok.ensures.sent c.in-Err-parts.ensures.failed)

pub returns-in-Ok-flush-clause-none_failed : goal.returns-in-Ok-flush-clause-none_failed
returns-in-Ok-flush-clause-none_failed g c =
    puts_then g.K.Sink.is_put c.args.out.now c.text.new.out c.flush.new.out false c.in-Ok.ensures.sent.puts
    (puts_then g.K.Sink.is_put c.text.new.out c.parts.new.out c.flush.new.out false c.in-Ok-parts.ensures.sent.puts c.in-Ok-flush.ensures.sent.puts)

pub returns-in-Err-flush-clause-failed : goal.returns-in-Err-flush-clause-failed
returns-in-Err-flush-clause-failed g c =
    let title : List ℕ = codes "Data 1\n" in
    let text = parts_text (map part_value c.args.parts.now) in
    let less : g.K.Sink.faults c.args.out.now ≤ g.K.Sink.faults c.parts.new.out = omega (arith, c.text.ensures.faults, c.parts.ensures.faults) in
    failed_put g.K.Sink.is_put g.K.Sink.written g.K.Sink.faults c.args.out.now c.flush.new.out (waiting c.args.self.now ++ ((title ++ text) ++ [])) (title ++ text) (ap (λ (w : List ℕ). w ++ ((title ++ text) ++ [])) c.requires.empty ∙ append-nil (title ++ text))
    (failed_later g.K.Sink.is_put g.K.Sink.written g.K.Sink.faults c.args.out.now c.parts.new.out c.flush.new.out (waiting c.args.self.now) (title ++ text) (waiting c.parts.new.self) [] less
    (sent_then g.K.Sink.is_put g.K.Sink.written c.args.out.now c.text.new.out c.parts.new.out (waiting c.args.self.now) title (waiting c.text.new.self) text (waiting c.parts.new.self) c.in-Ok.ensures.sent c.in-Ok-parts.ensures.sent)
    (failed_put g.K.Sink.is_put g.K.Sink.written g.K.Sink.faults c.parts.new.out c.flush.new.out (waiting c.parts.new.self) (waiting c.parts.new.self ++ []) (sym (append-nil (waiting c.parts.new.self))) c.in-Err-flush.ensures.failed))
