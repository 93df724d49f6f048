use Rattle.std.proofs.Common.{arith}
use Rattle.busy_times.proofs.Profiles.{unused_more}
use Rattle.busy_times.proofs.points.count_used.Goals as goal

pub loop-count-preserved : goal.loop-count-preserved
loop-count-preserved c =
    let bound = c.loop-count.invariant.bound in
    record {
      bound = omega (arith, bound);
      unused = unused_more c.args.points.now c.loop-count.count c.loop-count-test.true bound c.if-points-count-ne0.false c.loop-count.invariant.unused;
    }
