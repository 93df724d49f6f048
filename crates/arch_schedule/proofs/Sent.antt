-- What is known of a problem, once its tests are sent over other buses.
use Rattle.std.proofs.Common.{ℕ, Option, List, length, map, sym, ◌∙◌, subst}
use Rattle.resource_table.specs.Befores.{listed}
use Rattle.resource_table.specs.Jobs.{JobValue, job_over}
use Rattle.resource_table.proofs.Restarts.{length-tests_over}
use Rattle.arch_schedule.specs.declared.problem.TimedTests.{TimedTests}
use Rattle.arch_schedule.specs.declared.room.ScheduleRoom.{ScheduleRoom}
use Rattle.arch_schedule.specs.Problems.{IsProblem}
use Rattle.arch_schedule.specs.Rooms.{HasRoom, HasRoomFor}
use Rattle.arch_schedule.proofs.OtherBuses.{listed_over}

pub problem_over : (buses : List (Option ℕ)) (lengths : List ℕ) (job : JobValue) (p : TimedTests) → IsProblem job p → IsProblem (job_over buses lengths job) p
problem_over buses lengths job p problem = record {
  some_wires = problem.some_wires;
  few_wires = problem.few_wires;
  tests = problem.tests ∙ sym (length-tests_over buses lengths job.tests);
  timed = problem.timed;
  before = listed_over buses lengths job (map listed p.before.items) problem.before;
}

pub room_in : (job : JobValue) (p : TimedTests) (r : ScheduleRoom) → IsProblem job p → HasRoomFor p r → HasRoom (length job.tests) r
room_in job p r problem room = subst (λ (n : ℕ). HasRoom n r) problem.tests room
