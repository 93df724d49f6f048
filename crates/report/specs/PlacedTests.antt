-- What the tests of a good plan keep, as the lines of a report take it for granted.
use Rattle.std.specs.Prelude.{◌≡◌, ℕ, ◌^◌, ◌<◌, ◌≤◌, ◌&&◌, Some, List, length, slice_get, if◌then◌else◌}
use Rattle.std.specs.List.{sum_by}
use Rattle.soc_model.specs.Chips.{ModuleValue}
use Rattle.live_tests.specs.declared.placed.PlacedTest.{PlacedTest}
use Rattle.live_tests.specs.Loads.{is_active}
use Rattle.report.specs.Totals.{cycles_of}
use Rattle.report.specs.BusLines.{is_over}

-- the cycles of all tests over the wires of a bus
abbrev pub cycles_over : List PlacedTest → (bus : ℕ) → ℕ
cycles_over tests b = sum_by (λ (t : PlacedTest). if is_over b t then cycles_of t else 0) tests

-- how many tests over the wires of a bus are active at a cycle
abbrev pub active_over : List PlacedTest → (bus cycle : ℕ) → ℕ
active_over tests b c = sum_by (λ (t : PlacedTest). if is_over b t && is_active c t then 1 else 0) tests

-- tests of a plan of so many cycles: on a bus one at a time, and together they don't take longer than the tests of a chip may
pub record AreTests (cycles : ℕ) (tests : List PlacedTest) : Type 0 where
  pub end_by : (i : ℕ) (t : PlacedTest) → slice_get tests i ≡ Some t → (t.start ≤ t.end) × (t.end ≤ cycles)
  pub apart : (b c : ℕ) → active_over tests b c ≤ 1
  pub short : sum_by cycles_of tests ≤ 10 ^ 18

-- the module of each test is one of these
abbrev pub StandIn : List ModuleValue → List PlacedTest → Type 0
StandIn modules tests = (i : ℕ) (t : PlacedTest) → slice_get tests i ≡ Some t → t.place < length modules
