use Rattle.std.proofs.Common.{get_or, arith}
use Rattle.vector_lines.proofs.Walks.{nothing, walk_begun, reached_next}
use Rattle.vector_lines.proofs.numbers.walk_from.Goals as goal
use Rattle.common_lemmas.proofs.Lists.{any_default}

pub returns-then-before-count : goal.returns-then-before-count
returns-then-before-count g c =
    walk_begun c.loop-run-test.true (any_default c.args.runs.now c.loop-run.run nothing (get_or c.args.runs.now c.loop-run.run nothing) c.loop-run-test.true) c.loop-run.invariant
    (g.B.PatternBits.value_of c.args.bits.now) c.requires.full c.if-before-count.true c.value.ensures

pub loop-run-preserved : goal.loop-run-preserved
loop-run-preserved g c =
    reached_next c.loop-run-test.true (any_default c.args.runs.now c.loop-run.run nothing (get_or c.args.runs.now c.loop-run.run nothing) c.loop-run-test.true) c.loop-run.invariant (omega (arith, c.if-before-count.false))
