-- Room for schedules.
use Rattle.std.specs.Prelude.{◌≡◌, ℕ, ◌<◌, ◌≤◌, List, length, map, IfSome, Option, slice_index}
use Rattle.std.specs.List.{All, sum_by}
use Rattle.plan_model.specs.declared.TheConstants.{WIRES_MOST, START_MOST}
use Rattle.live_tests.specs.declared.neighbours.Neighbours.{Neighbours}
use Rattle.resource_table.specs.Befores.{listed, AreListed}
use Rattle.resource_table.specs.Jobs.{JobValue, cycles_of, IsSoundJob}
use Rattle.arch_schedule.specs.declared.problem.TimedTests.{TimedTests}
use Rattle.arch_schedule.specs.declared.room.ScheduleRoom.{ScheduleRoom}

-- no chip has a bus of a later slot
abbrev pub IsSlot : Option ℕ → Type 0
IsSlot bus = IfSome bus (λ k. k < WIRES_MOST)

-- room for `tests` tests
pub record HasRoom (tests : ℕ) (r : ScheduleRoom) : Type 0 where
  pub slots : length r.slots.items ≡ tests
  pub cycles : length r.cycles.items ≡ tests
  pub chains : length r.chains.items ≡ tests
  pub starts : length r.starts.items ≡ tests
  pub keys : length r.keys.items ≡ tests
  pub second : length r.second.items ≡ tests
  pub in_slots : All IsSlot r.slots.items
  pub small_starts : All (λ s. s ≤ START_MOST) r.starts.items
  pub in_second : All (λ test. test < tests) r.second.items

abbrev pub HasRoomFor : TimedTests → ScheduleRoom → Type 0
HasRoomFor p r = HasRoom (length p.tests.items) r

-- for each of `tests` tests those that precede it, in a sound job
pub record AreBeforeSo (tests : ℕ) (before : List Neighbours) : Type 0 where
  pub job : JobValue
  pub sound : IsSoundJob job
  pub are : AreListed job (map listed before)
  pub many : length job.tests ≡ tests

-- each test lasts a cycle at least, and all of them together end by the greatest start
pub record AreShort (cycles : List ℕ) : Type 0 where
  pub last : All (λ c. 1 ≤ c) cycles
  pub short : sum_by (λ (c : ℕ). c) cycles ≤ START_MOST

-- these are the cycles of the tests of a job
abbrev pub AreCyclesOf : JobValue → List ℕ → Type 0
AreCyclesOf job cycles = (test : ℕ) → test < length job.tests → slice_index cycles test ≡ cycles_of job test
