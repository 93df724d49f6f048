use Rattle.std.proofs.Common.{arith}
use Rattle.vector_lines.proofs.Walks.{nothing, count_more}
use Rattle.vector_lines.proofs.numbers.count_of.Goals as goal

pub overflow_add-count : goal.overflow_add-count
overflow_add-count c =
    let more = count_more c.args.runs.now c.loop-run.run-index nothing c.loop-run-test.true in
    omega (arith, c.loop-run.invariant, more.0, more.1, c.requires)

pub loop-run-preserved : goal.loop-run-preserved
loop-run-preserved c =
    let more = count_more c.args.runs.now c.loop-run.run-index nothing c.loop-run-test.true in
    omega (arith, c.loop-run.invariant, more.0)
