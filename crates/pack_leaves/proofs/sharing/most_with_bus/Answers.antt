use Rattle.std.proofs.Common.{rules, slice_index}
use Rattle.pack_leaves.proofs.Rows.{found_next}
use Rattle.pack_leaves.proofs.sharing.most_with_bus.Goals as goal

pub loop-width-preserved : goal.loop-width-preserved
loop-width-preserved c =
    found_next (slice_index c.args.worth.now) (slice_index c.args.row.now) c.args.first c.args.high c.args.x c.loop-width.width c.loop-width.most c.max-most.result c.loop-width.invariant
    (record { from = search rules; to = search rules; within = search rules })
    (search rules)
