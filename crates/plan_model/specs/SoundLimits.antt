-- Sound limits: what all limits that are read keep, for the chip that they are read for.
use Rattle.std.specs.Prelude.{◌≡◌, ℕ, ◌+◌, ◌<◌, ◌≤◌, Some, is_some, List, [], ◌∷◌, length, slice_get, IfSome, IsTrue}
use Rattle.std.specs.List.{All, Contains}
use Rattle.soc_model.specs.declared.TestId.{TestId}
use Rattle.soc_model.specs.declared.TheConstants.{POWER_MOST, NUMBER_WORD_MOST}
use Rattle.soc_model.specs.Chips.{SocValue, LiveTest, live_tests, id_of}
use Rattle.soc_model.specs.Lookups.{test_places}
use Rattle.plan_model.specs.declared.TheConstants.{WIRES_MOST, BUDGET_MOST, STEPS_MOST}
use Rattle.plan_model.specs.Plans.{ProfileValue, LimitsValue, power_of_id}
use Rattle.plan_model.specs.Rules.{live_ids}

-- the chip has the test
abbrev pub HasTest : SocValue → TestId → Type 0
HasTest soc id = IsTrue (is_some (test_places soc id))

-- steps from growing numbers, the first at least `from`
abbrev pub Grow : ℕ → List (ℕ × ℕ) → Type 0
Grow from [] = Unit {0}
Grow from (s ∷ steps) = (from ≤ s.0) × Grow (s.0 + 1) steps

-- a profile of a test of the chip: the first step is from 0
pub record IsSoundProfile (soc : SocValue) (p : ProfileValue) : Type 0 where
  pub test : HasTest soc p.test
  pub some_step : 1 ≤ length p.steps
  pub few_steps : length p.steps ≤ STEPS_MOST
  pub begins : (power : ℕ) × (slice_get p.steps 0 ≡ Some (0, power))
  pub grows : Grow 0 p.steps
  pub small : All (λ (s : ℕ × ℕ). (s.0 ≤ NUMBER_WORD_MOST) × (s.1 ≤ POWER_MOST)) p.steps

-- The precedences of live tests have no cycle: each goes from a test of a lower rank to one of a greater rank.
abbrev pub IsAcyclic : SocValue → LimitsValue → Type 0
IsAcyclic soc limits =
    (rank : TestId → ℕ) × ((a b : TestId) → Contains limits.before (a, b) → Contains (live_ids soc) a → Contains (live_ids soc) b →
    rank a < rank b)

-- limits that are sound for the chip
pub record IsSoundLimits (soc : SocValue) (limits : LimitsValue) : Type 0 where
  pub some_wire : 1 ≤ limits.wires
  pub few_wires : limits.wires ≤ WIRES_MOST
  pub power : IfSome limits.power (λ most. most ≤ POWER_MOST)
  pub budget : limits.budget ≤ BUDGET_MOST
  pub before : All (λ (p : TestId × TestId). HasTest soc p.0 × HasTest soc p.1) limits.before
  pub profiles : All (IsSoundProfile soc) limits.profiles
  -- no test has two profiles
  pub one_profile : (p q : ℕ) (x y : ProfileValue) → slice_get limits.profiles p ≡ Some x → slice_get limits.profiles q ≡ Some y →
      x.test ≡ y.test → p ≡ q
  pub acyclic : IsAcyclic soc limits
  -- no live test passes the limit at any cycle
  pub within : (i : ℕ) (l : LiveTest) → slice_get (live_tests soc) i ≡ Some l → (r : ℕ) →
      IfSome limits.power (λ most. power_of_id limits (id_of l) l.test.power r ≤ most)
