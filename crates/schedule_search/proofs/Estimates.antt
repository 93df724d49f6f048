-- The two ends of a test that is placed next are estimates.
use Rattle.std.proofs.Common.{◌≡◌, ℕ, ◌+◌, ◌≤◌, arith}
use Rattle.resource_table.specs.Jobs.{cycles_of}
use Rattle.resource_table.specs.Schedules.{TableValue, ready_at, IsEarliest}
use Rattle.resource_table.proofs.Ready.{ready-least}
use Rattle.schedule_search.specs.Estimates.{IsAtLeastReady, IsAtMostNow}

-- no test starts before it is ready
pub ready_first : (t : TableValue) (test start : ℕ) → IsEarliest t.job t.placed test start → ready_at t.job t.placed test ≤ start
ready_first t test start earliest = ready-least t.job t.placed test start earliest.fits.after

-- the end now
pub now_least : (t : TableValue) (test r : ℕ) → (start : ℕ) × IsEarliest t.job t.placed test start × (r ≡ start + cycles_of t.job test) → IsAtLeastReady t test r
now_least t test r now = omega (arith, ready_first t test now.0 now.1, now.2)

pub now_most : (t : TableValue) (test r : ℕ) → (start : ℕ) × IsEarliest t.job t.placed test start × (r ≡ start + cycles_of t.job test) → IsAtMostNow t test r
now_most t test r now start earliest = (let least = now.1.least start earliest.fits in omega (arith, least, now.2))

-- the ready end
pub ready_least : (t : TableValue) (test r : ℕ) → r ≡ ready_at t.job t.placed test + cycles_of t.job test → IsAtLeastReady t test r
ready_least t test r is = omega (arith, is)

pub ready_most : (t : TableValue) (test r : ℕ) → r ≡ ready_at t.job t.placed test + cycles_of t.job test → IsAtMostNow t test r
ready_most t test r is start earliest = omega (arith, is, ready_first t test start earliest)
