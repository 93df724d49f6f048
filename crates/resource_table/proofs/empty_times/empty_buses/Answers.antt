use Rattle.std.proofs.Common.{◌∙◌, arith}
use Rattle.resource_table.proofs.PlacedTimes.{empty_bus_lines}
use Rattle.resource_table.proofs.empty_times.empty_buses.Goals as goal

pub returns : goal.returns
returns c =
    empty_bus_lines c.args.tests.now c.in_ok-count.count c.max.result c.deref.result.now c.timelines_of_rooms.result
    (rw c.in_ok-count.ensures.ok_part at c.count_timelines.ensures)
    (let most = c.max.ensures in omega arith) (let most = c.max.ensures in omega arith) (c.deref.ensures.value ∙ c.in_ok-rooms.ensures) c.timelines_of_rooms.ensures.long c.timelines_of_rooms.ensures.empty c.timelines_of_rooms.ensures.room
