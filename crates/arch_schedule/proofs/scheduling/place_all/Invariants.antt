use Rattle.std.proofs.Common.{◌≡◌, length}
use Rattle.resource_table.specs.Schedules.{IsListSchedule, IsSoundTable}
use Rattle.arch_schedule.specs.Rooms.{HasRoom}
use Rattle.arch_schedule.proofs.scheduling.place_all.Given as goal

abbrev pub invariant-loop-place : goal.invariant-loop-place
invariant-loop-place g l = record {
  job : l.table.job ≡ l.initial.table.job;
  list : IsListSchedule l.table.job l.table.placed;
  sound : IsSoundTable l.table;
  cycles : l.room.cycles ≡ l.initial.room.cycles;
  room : HasRoom (length l.initial.table.job.tests) l.room;
}
