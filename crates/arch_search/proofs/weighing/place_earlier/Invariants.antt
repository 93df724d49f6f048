use Rattle.std.proofs.Common.{◌≡◌}
use Rattle.resource_table.specs.Schedules.{IsSoundTable}
use Rattle.arch_schedule.specs.Problems.{IsProblem}
use Rattle.arch_search.specs.States.{IsStateOf}
use Rattle.arch_schedule.specs.Rooms.{HasRoomFor}
use Rattle.arch_search.proofs.weighing.place_earlier.Given as goal

abbrev pub invariant-loop-time : goal.invariant-loop-time
invariant-loop-time g l = record {
  problem : IsProblem l.table.job l.problem;
  sound : IsSoundTable l.table;
  state : IsStateOf l.problem l.state;
  room : HasRoomFor l.problem l.room;
  cycles : l.room.cycles ≡ l.initial.room.cycles;
}
