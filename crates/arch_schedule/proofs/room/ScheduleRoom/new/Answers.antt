use Rattle.arch_schedule.proofs.Beginnings.{empty_room, long_zeros}
use Rattle.arch_schedule.proofs.room.ScheduleRoom.new.Goals as goal

pub returns : goal.returns
returns c = empty_room c.args.tests _ _ _ c.in_ok-slots.ensures c.in_ok-cycles.ensures c.in_ok-chains.ensures c.in_ok-starts.ensures c.in_ok-keys.ensures.long c.in_ok-second.ensures.long c.in_ok-second.ensures.places (long_zeros c.args.tests _ c.in_ok-cycles.cycles.items c.in_ok-cycles.ensures c.deref.ensures.value) (long_zeros c.args.tests _ c.in_ok-cycles.cycles.items c.in_ok-cycles.ensures c.deref-2.ensures.value)
