use Rattle.resource_table.proofs.PlacedTimes.{empty_kind}
use Rattle.resource_table.proofs.empty_times.empty_timelines.Goals as goal

pub returns : goal.returns
returns c =
    empty_kind c.args.kind c.args.tests.now c.in_ok-count.count c.in_ok-counts.counts.items c.deref.result.now c.timelines_of_rooms.result c.requires
    (rw c.in_ok-count.ensures.ok_part at c.count_timelines.ensures)
    c.in_ok-counts.ensures.long c.in_ok-counts.ensures.counts c.deref.ensures.value c.timelines_of_rooms.ensures.long c.timelines_of_rooms.ensures.empty c.timelines_of_rooms.ensures.room
