-- What the report of a good plan shows.
use Rattle.std.specs.Prelude.{◌≡◌, ℕ, ◌+◌, ◌<◌, ◌≤◌, Some, List, slice_get, true}
use Rattle.soc_model.specs.Chips.{SocValue}
use Rattle.plan_model.specs.Plans.{LimitsValue}
use Rattle.live_tests.specs.declared.placed.PlacedTest.{PlacedTest}
use Rattle.report.specs.declared.holders.Hold.{Hold}
use Rattle.report.specs.declared.peak.Peak.{Peak}
use Rattle.report.specs.BusLines.{busy_cycles, idle_cycles}
use Rattle.report.specs.Chains.{chain_lines, chain_text, last_test}
use Rattle.report.specs.Holders.{keeps_out}
use Rattle.report.specs.PlacedTests.{cycles_over}

-- the greatest load of the cycles before `n`, and the first cycle that has it; without a load both are 0
pub record IsPeak (load : ℕ → ℕ) (n : ℕ) (p : Peak) : Type 0 where
  pub most : (c : ℕ) → c < n → load c ≤ p.power
  pub first : (c : ℕ) → c < p.cycle → load c < p.power
  pub attained : 1 ≤ p.power → (p.cycle < n) × (load p.cycle ≡ p.power)
  pub none : p.power ≡ 0 → p.cycle ≡ 0

-- each cycle of a bus is busy or idle, and it is busy as long as its tests take one after another
pub record IsShared (tests : List PlacedTest) (bus cycles : ℕ) : Type 0 where
  pub all : busy_cycles tests bus cycles + idle_cycles tests bus cycles ≡ cycles
  pub busy : busy_cycles tests bus cycles ≡ cycles_over tests bus

-- The test that held another one is one of the tests. It ended as the other started, and so it started earlier, and it kept the other
-- out for this reason.
pub record IsHeldBy (soc : SocValue) (limits : LimitsValue) (load : ℕ → ℕ) (tests : List PlacedTest) (t u : PlacedTest) (kind : Hold) :
    Type 0 where
  pub place : ℕ
  pub there : slice_get tests place ≡ Some u
  pub ended : u.end ≡ t.start
  pub earlier : u.start < t.start
  pub kept_out : keeps_out soc limits load kind t u ≡ true

-- with any more lines the lines of the tests that end last are the same: the last of them is of a test that nothing held
abbrev pub IsWhole : SocValue → LimitsValue → (load : ℕ → ℕ) → List PlacedTest → (cycles : ℕ) → Type 0
IsWhole soc limits load tests cycles =
    (n : ℕ) → cycles ≤ n → chain_lines soc limits load tests n (last_test tests cycles) ≡ chain_text soc limits load tests cycles
