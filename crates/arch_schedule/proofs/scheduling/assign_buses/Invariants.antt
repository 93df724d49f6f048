use Rattle.std.proofs.Common.{◌≡◌, ℕ, ◌+◌, ◌≤◌, take, All, sum_by}
use Rattle.plan_model.specs.declared.TheConstants.{START_MOST}
use Rattle.arch_schedule.specs.Rooms.{HasRoomFor}
use Rattle.arch_schedule.proofs.scheduling.assign_buses.Given as goal

abbrev pub invariant-loop-test : goal.invariant-loop-test
invariant-loop-test l = record {
  room : HasRoomFor l.problem l.room;
  last : All (λ c. 1 ≤ c) (take l.test l.room.cycles.items);
  short : sum_by (λ (c : ℕ). c) (take l.test l.room.cycles.items) + l.left ≡ START_MOST;
}
