-- Estimates of where a test ends that isn't placed yet.
use Rattle.std.specs.Prelude.{◌≡◌, ℕ, ◌+◌, ◌<◌, ◌≤◌, false, length}
use Rattle.std.specs.Borrow.{Bor}
use Rattle.resource_table.specs.Jobs.{cycles_of, Precedes}
use Rattle.resource_table.specs.Schedules.{TableValue, ready_at, is_placed, IsEarliest, IsSoundTable}

-- in a sound table, a test of the job that isn't placed, and none that must follow it is
pub record CanAsk (t : TableValue) (test : ℕ) : Type 0 where
  pub sound : IsSoundTable t
  pub in_job : test < length t.job.tests
  pub unplaced : is_placed t.placed test ≡ false
  pub followers : (later : ℕ) → Precedes t.job test later → is_placed t.placed later ≡ false

-- not before the test is ready and has run
abbrev pub IsAtLeastReady : TableValue → ℕ → ℕ → Type 0
IsAtLeastReady t test estimate = ready_at t.job t.placed test + cycles_of t.job test ≤ estimate

-- not after the test ends if it is placed now
abbrev pub IsAtMostNow : TableValue → ℕ → ℕ → Type 0
IsAtMostNow t test estimate = (start : ℕ) → IsEarliest t.job t.placed test start → estimate ≤ start + cycles_of t.job test

-- wherever an estimate may be asked for, the closure can be called, and it answers from the ready end to the end now
pub record IsEstimate (can : Bor TableValue → ℕ → Type 0) (gives : Bor TableValue → ℕ → ℕ → Type 0) : Type 0 where
  pub callable : (t : Bor TableValue) (test : ℕ) → CanAsk t.now test → can t test
  pub least : (t : Bor TableValue) (test estimate : ℕ) → CanAsk t.now test → gives t test estimate → IsAtLeastReady t.now test estimate
  pub most : (t : Bor TableValue) (test estimate : ℕ) → CanAsk t.now test → gives t test estimate → IsAtMostNow t.now test estimate
