use Rattle.std.proofs.Common.{◌+◌, ap, arith, length}
use Rattle.std.proofs.lemmas.List.{length_push}
use Rattle.bus_model.specs.Buses.{places_time}
use Rattle.arch_settle.proofs.Indexed.{index_more}
use Rattle.arch_settle.proofs.moving.times_by_width.Goals as goal

pub loop-less-preserved : goal.loop-less-preserved
loop-less-preserved c =
    let row = c.loop-less.row.items in
    record {
      count = omega (arith, ap length c.in_ok-push.ensures.ok, length_push row c.time_at.result, c.loop-less.invariant.count);
      times = index_more c.push.new.to.items row c.time_at.result c.loop-less.less (λ i. places_time c.args.table.now (i + 1) c.args.places.now) c.in_ok-push.ensures.ok c.loop-less.invariant.count c.loop-less.invariant.times c.time_at.ensures;
    }
