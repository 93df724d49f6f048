use Rattle.std.proofs.Common.{◌≡◌, ◌<◌, ◌∙◌, sym, length, arith, slice_index}
use Rattle.vector_lines.specs.Made.{made_from}
use Rattle.bit_machine.proofs.PathBits.{path_holds, path_differs, unequal}
use Rattle.bit_machine.proofs.WordBits.{word_has}
use Rattle.bit_machine.proofs.stepping.holds_stimulus.Goals as goal

pub returns-then-bit-is_set : goal.returns-then-bit-is_set
returns-then-bit-is_set c = λ inputs lengths cells is all.
    let within : c.loop-cell.cell < length c.args.path.now.loads = omega (arith, c.loop-cell-test.true, c.len-cell-end.ensures) in
    let made : c.is_set.result ≡ made_from c.args.base c.args.pattern (slice_index c.args.path.now.loads c.loop-cell.cell) 0 =
    c.is_set.ensures ∙ word_has c.of-line.result c.args.path.now.loads c.loop-cell.cell c.word_at-word.result within c.word_at-word.ensures ∙ c.of-line.ensures.bits (slice_index c.args.path.now.loads c.loop-cell.cell) in
    path_differs c.args.base c.args.pattern c.args.ring.now is all c.loop-cell.cell within (λ same. unequal c.bit.result c.is_set.result c.if-bit-is_set.true (c.bit.ensures ∙ same ∙ sym made))

pub returns : goal.returns
returns c = λ inputs lengths cells is all.
    path_holds c.args.base c.args.pattern c.args.ring.now is all (λ r h. c.loop-cell.invariant.done r (omega (arith, h, c.loop-cell-test.false, c.len-cell-end.ensures)))
