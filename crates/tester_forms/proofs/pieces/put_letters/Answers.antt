use Rattle.std.proofs.Common.{arith, refl}
use Rattle.tester_forms.specs.Pieces.{letter_of}
use Rattle.tester_forms.proofs.Puts.{put_more}
use Rattle.tester_forms.proofs.pieces.put_letters.Goals as goal

pub loop-done-preserved : goal.loop-done-preserved
loop-done-preserved c =
    put_more (letter_of c.args.letters) c.args.compared.now c.args.at c.loop-done.done c.args.text.now c.loop-done.text _ c.letter_of.result c.loop-done-test.true
    (omega (arith, c.loop-done.auto.text, c.requires)) c.letter_of.ensures refl c.loop-done.invariant
