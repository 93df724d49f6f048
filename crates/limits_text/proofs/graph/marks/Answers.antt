use Rattle.limits_text.proofs.Taking.{marked_more}
use Rattle.limits_text.proofs.graph.marks.Goals as goal

pub loop-test-preserved : goal.loop-test-preserved
loop-test-preserved c = marked_more c.loop-test.gone.items c.args.order.now c.loop-test.test-index c.args.count c.loop-test-test.true c.loop-test.invariant
