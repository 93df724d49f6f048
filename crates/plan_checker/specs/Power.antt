-- What the tests of a plan draw, with few steps and numbers that leave room for sums.
use Rattle.std.specs.Prelude.{◌≡◌, ℕ, ◌≤◌, ◌^◌, Some, List, length, slice_get}
use Rattle.plan_model.specs.declared.TheConstants.{STEPS_MOST}
use Rattle.plan_model.specs.Plans.{LimitsValue}
use Rattle.plan_model.specs.Views.{limits_value}
use Rattle.live_tests.specs.declared.placed.PlacedTest.{PlacedTest}
use Rattle.live_tests.specs.Events.{profile_place, steps_of, HasSteps}
use Rattle.plan_checker.specs.declared.power.ProfiledTests.{ProfiledTests}

-- for each test the place of its profile
abbrev pub AreProfiles : LimitsValue → List PlacedTest → List ℕ → Type 0
AreProfiles limits placed places =
    (i : ℕ) (j : PlacedTest) → slice_get placed i ≡ Some j → slice_get places i ≡ Some (profile_place limits j.id)

-- few steps with growing begins, and powers that leave room for sums
pub record HasSmallSteps (limits : LimitsValue) (j : PlacedTest) : Type 0 where
  pub steps : HasSteps limits j
  pub few : length (steps_of limits j) ≤ STEPS_MOST
  pub small : (n : ℕ) (s : ℕ × ℕ) → slice_get (steps_of limits j) n ≡ Some s → s.1 ≤ 10 ^ 9

-- Placed tests with the places of their profiles: few, with steps of power, and a limit that leaves room for sums.
pub record IsLoad (limits : LimitsValue) (placed : List PlacedTest) (profiles : List ℕ) (most : ℕ) : Type 0 where
  pub places : AreProfiles limits placed profiles
  pub few : length placed ≤ 4096
  pub steps : (i : ℕ) (j : PlacedTest) → slice_get placed i ≡ Some j → HasSmallSteps limits j
  pub limit : most ≤ 10 ^ 9

-- a load as the code has it
abbrev pub IsSoundLoad : ProfiledTests → Type 0
IsSoundLoad load = IsLoad (limits_value load.limits.now) load.placed.now load.profiles.now load.most
