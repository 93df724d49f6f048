-- States of the search.
use Rattle.std.specs.Prelude.{◌≡◌, ℕ, ◌+◌, ◌<◌, length}
use Rattle.std.specs.List.{All, sum_by}
use Rattle.arch_schedule.specs.declared.buses.Buses.{Buses}
use Rattle.arch_schedule.specs.declared.problem.TimedTests.{TimedTests}
use Rattle.arch_schedule.specs.Buses.{AreBuses}
use Rattle.arch_search.specs.declared.state.State.{State}

-- A state for `wires` wires, `modules` modules with tests over the wires, and `tests` tests. That the order has each test once and
-- keeps the precedences is found out as its tests are placed.
pub record IsState (wires modules tests : ℕ) (s : State) : Type 0 where
  pub buses : AreBuses s.buses
  pub as_many_slots : length s.buses.widths.items ≡ wires
  pub as_many_modules : length s.buses.slots.items ≡ modules
  pub as_many_tests : length s.order.items ≡ tests
  pub within : All (λ test. test < tests) s.order.items

-- a state for the wires, modules and tests of a problem
abbrev pub IsStateOf : TimedTests → State → Type 0
IsStateOf p s = IsState p.wires (length p.modules.items) (length p.tests.items) s

-- buses for the modules of a problem, and the wires that are left of them
pub record AreFirstBuses (p : TimedTests) (b : Buses) (left : ℕ) : Type 0 where
  pub within : All (λ k. k < length b.widths.items) b.slots.items
  pub all_wires : sum_by (λ (w : ℕ). w) b.widths.items + left ≡ length b.widths.items
  pub as_many_slots : length b.widths.items ≡ p.wires
  pub as_many_modules : length b.slots.items ≡ length p.modules.items
  pub as_many_loads : length b.loads.items ≡ length b.widths.items
