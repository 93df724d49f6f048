-- What the tests of a plan begin and end to draw, as events.
use Rattle.std.specs.Prelude.{◌≡◌, ℕ, ◌+◌, ◌≤◌, Option, Some, None, List, [], ◌∷◌, slice_get, nat_le, nat_lt, if◌then◌else◌}
use Rattle.std.specs.List.{flat_map, sum_by, position_or_len}
use Rattle.soc_model.specs.declared.TestId.{TestId}
use Rattle.soc_model.specs.Chips.{same_test}
use Rattle.plan_model.specs.Plans.{ProfileValue, LimitsValue}
use Rattle.plan_model.specs.SoundLimits.{Grow}
use Rattle.live_tests.specs.declared.placed.PlacedTest.{PlacedTest}
use Rattle.live_tests.specs.declared.power_events.Event.{Event}

-- the place of the first profile of a test, the number of profiles where it has none
abbrev pub profile_place : LimitsValue → TestId → ℕ
profile_place limits id = position_or_len (λ (p : ProfileValue). same_test p.test id) limits.profiles

-- those of a profile; without one a single step from the start
abbrev pub steps_from : Option ProfileValue → ℕ → List (ℕ × ℕ)
steps_from None own = (0, own) ∷ []
steps_from (Some p) own = p.steps

-- the steps in which a test draws power
abbrev pub steps_of : LimitsValue → PlacedTest → List (ℕ × ℕ)
steps_of limits t = steps_from (slice_get limits.profiles (profile_place limits t.id)) t.power

abbrev pub event_at : (cycle begins ends : ℕ) → Event
event_at cycle begins ends = record { cycle = cycle; begins = begins; ends = ends }

-- Each step that begins before the end begins a power and ends the one before it, which is `now` at first; at the end the
-- last one ends.
abbrev pub step_events : (start end now : ℕ) → List (ℕ × ℕ) → List Event
step_events start end now [] = event_at end 0 now ∷ []
step_events start end now (s ∷ steps) =
    if nat_lt (start + s.0) end then event_at (start + s.0) s.1 now ∷ step_events start end s.1 steps else step_events start end now steps

abbrev pub test_events : LimitsValue → PlacedTest → List Event
test_events limits t = step_events t.start t.end 0 (steps_of limits t)

abbrev pub all_events : LimitsValue → List PlacedTest → List Event
all_events limits tests = flat_map (test_events limits) tests

-- what events up to a cycle say
abbrev pub upto : ℕ → (Event → ℕ) → Event → ℕ
upto c f e = if nat_le e.cycle c then f e else 0

abbrev pub begun_by : List Event → ℕ → ℕ
begun_by events c = sum_by (upto c (λ (e : Event). e.begins)) events

abbrev pub ended_by : List Event → ℕ → ℕ
ended_by events c = sum_by (upto c (λ (e : Event). e.ends)) events

-- no event of the same cycle stands behind the one at a place
abbrev pub IsLastOf : List Event → ℕ → Type 0
IsLastOf events at = (x y : Event) → slice_get events at ≡ Some x → slice_get events (at + 1) ≡ Some y → x.cycle ≡ y.cycle → ⊥

-- a test whose steps of power have growing begins
pub record HasSteps (limits : LimitsValue) (t : PlacedTest) : Type 0 where
  pub ends_later : t.start ≤ t.end
  pub grow : Grow 0 (steps_of limits t)

-- all events are at most at that cycle
abbrev pub EndBy : (last : ℕ) → List Event → Type 0
EndBy last events = (i : ℕ) (e : Event) → slice_get events i ≡ Some e → e.cycle ≤ last
