-- Tests that end late, or in time.
use Rattle.std.specs.Prelude.{◌≡◌, ℕ, ◌+◌, ◌<◌, ◌≤◌, false, Some, List, length, slice_get}
use Rattle.resource_table.specs.declared.Placement.{Placement}
use Rattle.resource_table.specs.Jobs.{JobValue, cycles_of}
use Rattle.resource_table.specs.Schedules.{TableValue, ready_at, is_placed, IsEarliest}
use Rattle.schedule_search.specs.declared.walk.PlacedLast.{PlacedLast}

-- a test that isn't placed ends, if it is placed now, at `cycles` or later
pub record IsLateAt (t : TableValue) (cycles : ℕ) : Type 0 where
  pub test : ℕ
  pub in_job : test < length t.job.tests
  pub unplaced : is_placed t.placed test ≡ false
  pub late : (start : ℕ) → IsEarliest t.job t.placed test start → cycles ≤ start + cycles_of t.job test

-- each test that isn't placed ends before `cycles` if it starts as soon as it is ready
abbrev pub AreInTime : TableValue → ℕ → Type 0
AreInTime t cycles =
    (test : ℕ) → test < length t.job.tests → is_placed t.placed test ≡ false → ready_at t.job t.placed test + cycles_of t.job test < cycles

-- what is seen beside a test of the job: each one that isn't placed is in time
pub record IsSeen (t : TableValue) (s : PlacedLast) : Type 0 where
  pub in_job : s.test < length t.job.tests
  pub in_time : AreInTime t s.cycles

-- these are the tests of a job that aren't placed, and none takes fewer cycles than those after it
pub record AreUnplaced (job : JobValue) (placed : List Placement) (tests : List ℕ) : Type 0 where
  pub free : (n test : ℕ) → slice_get tests n ≡ Some test → (test < length job.tests) × (is_placed placed test ≡ false)
  pub whole : (test : ℕ) → test < length job.tests → is_placed placed test ≡ false → (n : ℕ) × (slice_get tests n ≡ Some test)
  pub falls : (m n test later : ℕ) → m < n → slice_get tests m ≡ Some test → slice_get tests n ≡ Some later →
      cycles_of job later ≤ cycles_of job test
