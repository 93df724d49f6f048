use Rattle.std.proofs.Common.{◌++◌, ◌∷◌, []}
use Rattle.std.proofs.lemmas.Result.{on_ok_weaker, on_err_weaker}
use Rattle.tester_commands.specs.DataText.{bits_word}
use Rattle.tester_commands.specs.DataParts.{made_bits}
use Rattle.tester_commands.specs.Sending.{waiting}
use Rattle.tester_commands.proofs.SentTexts.{sent_then, failed_later, failed_first}
use Rattle.tester_commands.proofs.blocks.Block.pattern.Goals as goal

pub returns-in-Err-byte-clause-failed : goal.returns-in-Err-byte-clause-failed
returns-in-Err-byte-clause-failed g c =
    let load = bits_word (made_bits c.args.base c.args.pattern 0 c.args.wanted.load) in
    let unload = bits_word (made_bits c.args.base c.args.pattern 1 c.args.wanted.unload) in
    failed_later g.K.Sink.is_put g.K.Sink.written g.K.Sink.faults c.args.out.now c.word.new.out c.byte.new.out (waiting c.args.self.now) load (waiting c.word.new.self) (32 ∷ (unload ++ 10 ∷ [])) c.word.ensures.faults c.in-Ok.ensures.sent
    (failed_first g.K.Sink.is_put g.K.Sink.written g.K.Sink.faults c.word.new.out c.byte.new.out (waiting c.word.new.self) (32 ∷ []) (unload ++ 10 ∷ []) c.in-Err-byte.ensures.failed)

pub returns-in-Err-word-clause-failed : goal.returns-in-Err-word-clause-failed
returns-in-Err-word-clause-failed g c =
    let load = bits_word (made_bits c.args.base c.args.pattern 0 c.args.wanted.load) in
    let unload = bits_word (made_bits c.args.base c.args.pattern 1 c.args.wanted.unload) in
    failed_later g.K.Sink.is_put g.K.Sink.written g.K.Sink.faults c.args.out.now c.word.new.out c.word-2.new.out (waiting c.args.self.now) load (waiting c.word.new.self) (32 ∷ (unload ++ 10 ∷ [])) c.word.ensures.faults c.in-Ok.ensures.sent
    (failed_later g.K.Sink.is_put g.K.Sink.written g.K.Sink.faults c.word.new.out c.byte.new.out c.word-2.new.out (waiting c.word.new.self) (32 ∷ []) (waiting c.byte.new.self) (unload ++ 10 ∷ []) c.byte.ensures.faults c.in-Ok-byte.ensures.sent
    (failed_first g.K.Sink.is_put g.K.Sink.written g.K.Sink.faults c.byte.new.out c.word-2.new.out (waiting c.byte.new.self) unload (10 ∷ []) c.in-Err-word.ensures.failed))

pub returns-clause-sent : goal.returns-clause-sent
returns-clause-sent g c =
    let load = bits_word (made_bits c.args.base c.args.pattern 0 c.args.wanted.load) in
    let unload = bits_word (made_bits c.args.base c.args.pattern 1 c.args.wanted.unload) in
    on_ok_weaker c.byte-2.result (λ last.
    sent_then g.K.Sink.is_put g.K.Sink.written c.args.out.now c.word.new.out c.byte-2.new.out (waiting c.args.self.now) load (waiting c.word.new.self) (32 ∷ (unload ++ 10 ∷ [])) (waiting c.byte-2.new.self) c.in-Ok.ensures.sent
    (sent_then g.K.Sink.is_put g.K.Sink.written c.word.new.out c.byte.new.out c.byte-2.new.out (waiting c.word.new.self) (32 ∷ []) (waiting c.byte.new.self) (unload ++ 10 ∷ []) (waiting c.byte-2.new.self) c.in-Ok-byte.ensures.sent
    (sent_then g.K.Sink.is_put g.K.Sink.written c.byte.new.out c.word-2.new.out c.byte-2.new.out (waiting c.byte.new.self) unload (waiting c.word-2.new.self) (10 ∷ []) (waiting c.byte-2.new.self) c.in-Ok-word.ensures.sent last))) c.byte-2.ensures.sent

pub returns-clause-failed : goal.returns-clause-failed
returns-clause-failed g c =
    let load = bits_word (made_bits c.args.base c.args.pattern 0 c.args.wanted.load) in
    let unload = bits_word (made_bits c.args.base c.args.pattern 1 c.args.wanted.unload) in
    on_err_weaker c.byte-2.result (λ last.
    failed_later g.K.Sink.is_put g.K.Sink.written g.K.Sink.faults c.args.out.now c.word.new.out c.byte-2.new.out (waiting c.args.self.now) load (waiting c.word.new.self) (32 ∷ (unload ++ 10 ∷ [])) c.word.ensures.faults c.in-Ok.ensures.sent
    (failed_later g.K.Sink.is_put g.K.Sink.written g.K.Sink.faults c.word.new.out c.byte.new.out c.byte-2.new.out (waiting c.word.new.self) (32 ∷ []) (waiting c.byte.new.self) (unload ++ 10 ∷ []) c.byte.ensures.faults c.in-Ok-byte.ensures.sent
    (failed_later g.K.Sink.is_put g.K.Sink.written g.K.Sink.faults c.byte.new.out c.word-2.new.out c.byte-2.new.out (waiting c.byte.new.self) unload (waiting c.word-2.new.self) (10 ∷ []) c.word-2.ensures.faults c.in-Ok-word.ensures.sent last))) c.byte-2.ensures.failed
