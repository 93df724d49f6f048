use Rattle.std.proofs.Common.{arith, length}
use Rattle.outside.proofs.NumberLemmas.{below_nineteen}
use Rattle.outside.proofs.numbers.short_number.Goals as goal

pub overflow_mul-n : goal.overflow_mul-n
overflow_mul-n c =
    let small = below_nineteen c.loop-b.n c.loop-b.b-index (length c.args.word.now) c.loop-b.invariant.2 c.loop-b-test.true c.requires.1 in omega arith

pub overflow_add-n : goal.overflow_add-n
overflow_add-n c =
    let small = below_nineteen c.loop-b.n c.loop-b.b-index (length c.args.word.now) c.loop-b.invariant.2 c.loop-b-test.true c.requires.1 in omega arith
