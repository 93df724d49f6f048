use Rattle.std.proofs.Common.{ap, arith, length, set}
use Rattle.std.proofs.lemmas.List.{length_push}
use Rattle.arch_settle.specs.Moves.{greatest_of}
use Rattle.arch_settle.proofs.Indexed.{index_more}
use Rattle.arch_settle.proofs.moving.times_besides.Goals as goal

pub loop-other-preserved : goal.loop-other-preserved
loop-other-preserved c =
    let besides = c.loop-other.besides.items in
    record {
      count = omega (arith, ap length c.in_ok-push.ensures.ok, length_push besides c.greatest_besides.result, c.loop-other.invariant.count);
      times = index_more c.push.new.to.items besides c.greatest_besides.result c.loop-other.other (λ other. greatest_of (set (set c.args.times.now c.args.bus 0) other 0)) c.in_ok-push.ensures.ok c.loop-other.invariant.count c.loop-other.invariant.times c.greatest_besides.ensures;
    }
