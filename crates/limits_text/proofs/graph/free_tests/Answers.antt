use Rattle.std.proofs.Common.{refl}
use Rattle.limits_text.proofs.Taking.{kept_more}
use Rattle.limits_text.proofs.graph.free_tests.Goals as goal

pub loop-test-preserved : goal.loop-test-preserved
loop-test-preserved c = kept_more c.args.counts.now c.loop-test.test _ c.loop-test.order.items c.take_free.new.order.items refl c.in_ok-take_free.ensures.taken c.in_ok-take_free.ensures.kept c.loop-test.invariant
