-- Placed tests: where a test fits beside them, and the least start at which it does.
use Rattle.std.specs.Prelude.{◌≡◌, ℕ, ◌+◌, ◌-◌, ◌<◌, ◌≤◌, ◌^◌, Bool, true, false, ◌&&◌, ◌||◌, nat_eq, nat_lt, nat_le, Option, None, Some, List, map, length, slice_get, IfSome, if◌then◌else◌}
use Rattle.std.specs.List.{sum_by, filter, list_any}
use Rattle.plan_model.specs.Plans.{step_power, greatest}
use Rattle.plan_model.specs.Rules.{Each}
use Rattle.resource_table.specs.declared.Placement.{Placement}
use Rattle.resource_table.specs.Jobs.{TestValue, JobValue, test_at, cycles_of, Precedes, IsSoundJob}

-- a job, and its placed tests in the order of placing
pub record TableValue : Type 0 where
  pub job : JobValue
  pub placed : List Placement

abbrev pub at_start : ℕ → ℕ → Placement
at_start test start = record { test = test; start = start }

-- the first cycle after a placed test
abbrev pub end_of : JobValue → Placement → ℕ
end_of job p = p.start + cycles_of job p.test

-- active at a cycle
abbrev pub IsActive : JobValue → Placement → ℕ → Type 0
IsActive job p c = (p.start ≤ c) × (c < end_of job p)

-- whether it is active
abbrev pub is_active : JobValue → ℕ → Placement → Bool
is_active job c p = nat_le p.start c && nat_lt c (end_of job p)

-- ---- tests that are never active together

abbrev pub same_bus : Option ℕ → Option ℕ → Bool
same_bus None b = false
same_bus (Some a) None = false
same_bus (Some a) (Some b) = nat_eq a b

abbrev pub is_at : Option ℕ → ℕ → Bool
is_at None place = false
is_at (Some p) place = nat_eq p place

-- they go over one bus, are of one module, or of a module and its direct parent
abbrev pub exclude : TestValue → TestValue → Bool
exclude t u = (same_bus t.bus u.bus || nat_eq t.place u.place) || (is_at t.parent u.place || is_at u.parent t.place)

-- ---- power

-- what a test draws `r` cycles after its start: the power of its last step that is from then or before
abbrev pub power_of : JobValue → ℕ → ℕ → ℕ
power_of job test r = step_power r 0 (test_at job test).steps

-- what a placed test draws at a cycle, 0 where it is not active
abbrev pub drawn : JobValue → ℕ → Placement → ℕ
drawn job c p = if is_active job c p then power_of job p.test (c - p.start) else 0

-- what the active tests draw together at a cycle
abbrev pub power_at : JobValue → List Placement → ℕ → ℕ
power_at job placed c = sum_by (drawn job c) placed

-- ---- where a test fits

-- at no cycle a test from a start is active together with a placed test that excludes it
abbrev pub MeetsNone : JobValue → List Placement → (test start : ℕ) → Type 0
MeetsNone job placed test start =
    (n : ℕ) (p : Placement) (c : ℕ) → slice_get placed n ≡ Some p → exclude (test_at job p.test) (test_at job test) ≡ true →
    IsActive job p c → IsActive job (at_start test start) c → ⊥

-- at each of its cycles it draws, together with the placed tests, no more than the limit
abbrev pub StaysWithin : JobValue → List Placement → (test start : ℕ) → Type 0
StaysWithin job placed test start =
    (c : ℕ) → IsActive job (at_start test start) c → IfSome job.power (λ most. power_at job placed c + power_of job test (c - start) ≤ most)

-- the placed tests that precede it have ended
abbrev pub ComesAfter : JobValue → List Placement → (test start : ℕ) → Type 0
ComesAfter job placed test start = (n : ℕ) (p : Placement) → slice_get placed n ≡ Some p → Precedes job p.test test → end_of job p ≤ start

-- beside the placed tests, a test fits at a start
pub record Fits (job : JobValue) (placed : List Placement) (test start : ℕ) : Type 0 where
  pub apart : MeetsNone job placed test start
  pub power : StaysWithin job placed test start
  pub after : ComesAfter job placed test start

-- the least start at which a test fits
pub record IsEarliest (job : JobValue) (placed : List Placement) (test start : ℕ) : Type 0 where
  pub fits : Fits job placed test start
  pub least : (other : ℕ) → Fits job placed test other → start ≤ other

-- ---- ends

-- the end of the test that ends last, 0 where there is none
abbrev pub last_end : JobValue → List Placement → ℕ
last_end job placed = greatest (map (end_of job) placed)

abbrev pub precedes : JobValue → ℕ → ℕ → Bool
precedes job earlier later = list_any (λ (p : ℕ × ℕ). nat_eq p.0 earlier && nat_eq p.1 later) job.before

-- the latest end of the placed tests that precede a test, 0 where there is none
abbrev pub ready_at : JobValue → List Placement → ℕ → ℕ
ready_at job placed test = last_end job (filter (λ (p : Placement). precedes job p.test test) placed)

abbrev pub is_placed : List Placement → ℕ → Bool
is_placed placed test = list_any (λ (p : Placement). nat_eq p.test test) placed

-- ---- tables

-- a test may be placed next at a start
pub record MayPlace (job : JobValue) (placed : List Placement) (test start : ℕ) : Type 0 where
  pub in_job : test < length job.tests
  pub new : is_placed placed test ≡ false
  pub ready : (earlier : ℕ) → Precedes job earlier test → is_placed placed earlier ≡ true
  pub fits : Fits job placed test start
  pub ends : start + cycles_of job test ≤ 10 ^ 18

-- a sound job, and each test was placed where it might be
pub record IsSoundTable (t : TableValue) : Type 0 where
  pub job : IsSoundJob t.job
  pub placed : Each (λ earlier p. MayPlace t.job earlier p.test p.start) t.placed

-- each test in turn stands at the least start at which it fits
abbrev pub IsListSchedule : JobValue → List Placement → Type 0
IsListSchedule job placed = Each (λ earlier p. IsEarliest job earlier p.test p.start) placed
