-- The first cycle at which more is drawn than a limit.
use Rattle.std.specs.Prelude.{◌≡◌, ℕ, ◌+◌, ◌<◌, ◌≤◌, ◌^◌, Option, Some, None, List}
use Rattle.live_tests.specs.declared.power_events.Event.{Event}
use Rattle.plan_checker.specs.declared.events.Excess.{Excess}
use Rattle.live_tests.specs.Events.{begun_by, ended_by}

-- numbers that leave room for sums
pub record IsSmall (e : Event) : Type 0 where
  pub begins : e.begins ≤ 10 ^ 9
  pub ends : e.ends ≤ 10 ^ 9

-- the first cycle at which more than the limit has begun and not ended
pub record IsHigh (events : List Event) (most : ℕ) (e : Excess) : Type 0 where
  pub more : ended_by events e.cycle + most < begun_by events e.cycle
  pub sum_is : e.sum + ended_by events e.cycle ≡ begun_by events e.cycle
  pub earlier : (d : ℕ) → d < e.cycle → begun_by events d ≤ ended_by events d + most

abbrev pub IsFirstHigh : List Event → ℕ → Option Excess → Type 0
IsFirstHigh events most None = (d : ℕ) → begun_by events d ≤ ended_by events d + most
IsFirstHigh events most (Some e) = IsHigh events most e

-- the first cycle of more than the limit, and what is drawn then
pub record IsOver (f : ℕ → ℕ) (most : ℕ) (e : Excess) : Type 0 where
  pub more : most < f e.cycle
  pub sum_is : e.sum ≡ f e.cycle
  pub earlier : (d : ℕ) → d < e.cycle → f d ≤ most

abbrev pub IsFirstOver : (ℕ → ℕ) → ℕ → Option Excess → Type 0
IsFirstOver f most None = (d : ℕ) → f d ≤ most
IsFirstOver f most (Some e) = IsOver f most e
