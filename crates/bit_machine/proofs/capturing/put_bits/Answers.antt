use Rattle.std.proofs.Common.{get_or, false, arith}
use Rattle.bit_machine.proofs.Steps.{put_more}
use Rattle.bit_machine.proofs.capturing.put_bits.Goals as goal
use Rattle.common_lemmas.proofs.Lists.{any_default}

pub overflow_add-at : goal.overflow_add-at
overflow_add-at c = omega (arith, c.len-cells.ensures, c.len-cells.type_inv, c.requires, c.loop-place-test.true)

pub loop-place-preserved : goal.loop-place-preserved
loop-place-preserved c =
    put_more c.args.bits.now c.args.answer.now c.args.at c.loop-place.place c.loop-place-test.true c.requires
    (any_default c.args.answer.now c.loop-place.place false (get_or c.args.answer.now c.loop-place.place false) c.loop-place-test.true) c.put.ensures c.loop-place.invariant
