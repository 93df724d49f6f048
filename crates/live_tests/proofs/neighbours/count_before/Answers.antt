use Rattle.std.proofs.Common.{◌+◌, ◌<◌, ◌^◌, arith, rules}
use Rattle.live_tests.proofs.Counts.{counts_more, count_small}
use Rattle.live_tests.proofs.neighbours.count_before.Goals as goal

pub overflow_add-index_mut : goal.overflow_add-index_mut
overflow_add-index_mut c =
    let small = count_small c.args.count c.loop-second.counts.items c.args.pairs.now c.loop-second.second-index c.index_mut.result.now c.loop-second.invariant c.loop-second-test.true c.requires c.index_mut.ensures.value in
    let fits : c.index_mut.result.now + 1 < 2 ^ 64 = omega (arith, small, c.loop-second-test.true) in
    search rules

pub loop-second-preserved : goal.loop-second-preserved
loop-second-preserved c =
    counts_more c.args.count c.loop-second.counts.items c.args.pairs.now c.loop-second.second-index c.index_mut.result.now c.loop-second.invariant c.loop-second-test.true c.requires c.index_mut.ensures.value
