-- A state of which the order or the buses are others, and a search with it.
use Rattle.std.proofs.Common.{◌≡◌, ◌∙◌, ℕ, ◌<◌, List, length, sym, ap, subst, All}
use Rattle.std.proofs.lemmas.List.{length-map}
use Rattle.live_tests.specs.declared.neighbours.Neighbours.{Neighbours}
use Rattle.resource_table.specs.Befores.{listed}
use Rattle.resource_table.specs.Jobs.{JobValue}
use Rattle.resource_table.specs.Schedules.{TableValue}
use Rattle.arch_schedule.specs.declared.buses.Buses.{Buses}
use Rattle.arch_schedule.specs.declared.dealing.DealtModule.{DealtModule}
use Rattle.arch_schedule.specs.declared.problem.TimedTests.{TimedTests}
use Rattle.arch_schedule.specs.declared.room.ScheduleRoom.{ScheduleRoom}
use Rattle.arch_search.specs.declared.setting.SearchSetting.{SearchSetting}
use Rattle.arch_search.specs.declared.state.State.{State}
use Rattle.arch_schedule.specs.Problems.{IsProblem}
use Rattle.arch_search.specs.States.{IsStateOf}
use Rattle.arch_search.specs.Searches.{IsSearch}
use Rattle.arch_schedule.specs.Buses.{AreBuses, AreAlike}
use Rattle.arch_schedule.specs.Dealing.{IsTaken}

-- there is a list of what precedes it for each test
pub before_long : (job : JobValue) (p : TimedTests) (before : List Neighbours) → before ≡ p.before.items → IsProblem job p → length before ≡ length p.tests.items
before_long job p before is problem = ap length is ∙ sym (length-map p.before.items listed) ∙ problem.before.long ∙ sym problem.tests

-- the order of a state is one of tests with such lists
pub order_before : (job : JobValue) (p : TimedTests) (s : State) (before : List Neighbours) → before ≡ p.before.items → IsProblem job p → IsStateOf p s → All (λ test. test < length before) s.order.items
order_before job p s before is problem state = subst (λ (n : ℕ). All (λ test. test < n) s.order.items) (sym (before_long job p before is problem)) state.within

-- such an order is one of the tests
pub order_within : (job : JobValue) (p : TimedTests) (before : List Neighbours) (order : List ℕ) → before ≡ p.before.items → IsProblem job p → All (λ test. test < length before) order → All (λ test. test < length p.tests.items) order
order_within job p before order is problem all = subst (λ (n : ℕ). All (λ test. test < n) order) (before_long job p before is problem) all

-- a state in another such order
pub state_ordered : (job : JobValue) (p : TimedTests) (s t : State) (before : List Neighbours) → before ≡ p.before.items → IsProblem job p → IsStateOf p s → t.buses ≡ s.buses → length t.order.items ≡ length s.order.items →
    All (λ test. test < length before) t.order.items → IsStateOf p t
state_ordered job p s t before is problem state same long within = record {
  buses = subst (λ (b : Buses). AreBuses b) (sym same) state.buses;
  as_many_slots = ap (λ (b : Buses). length b.widths.items) same ∙ state.as_many_slots;
  as_many_modules = ap (λ (b : Buses). length b.slots.items) same ∙ state.as_many_modules;
  as_many_tests = long ∙ state.as_many_tests;
  within = subst (λ (n : ℕ). All (λ test. test < n) t.order.items) (before_long job p before is problem) within;
}

-- a state on other buses
pub state_on : (p : TimedTests) (s t : State) → IsStateOf p s → AreBuses t.buses → AreAlike s.buses t.buses → t.order ≡ s.order → IsStateOf p t
state_on p s t state buses alike same = record {
  buses = buses;
  as_many_slots = alike.widths ∙ state.as_many_slots;
  as_many_modules = alike.slots ∙ state.as_many_modules;
  as_many_tests = ap (λ o. length o.items) same ∙ state.as_many_tests;
  within = subst (λ o. All (λ test. test < length p.tests.items) o.items) (sym same) state.within;
}

-- modules that are taken off the buses of a state
pub taken_for : (p : TimedTests) (s : State) (taken : List DealtModule) → IsStateOf p s → All (IsTaken (length s.buses.widths.items) (length s.buses.slots.items)) taken → All (IsTaken p.wires (length p.modules.items)) taken
taken_for p s taken state all = subst (λ (n : ℕ). All (IsTaken p.wires n) taken) state.as_many_modules (subst (λ (w : ℕ). All (IsTaken w (length s.buses.slots.items)) taken) state.as_many_slots all)

-- a search with another next state, and other modules that are taken
pub search_next : (s : SearchSetting) (table : TableValue) (room : ScheduleRoom) (taken taken2 : List DealtModule) (less : List ℕ) (best current next next2 : State) → IsSearch s table room taken less best current next →
    All (IsTaken s.problem.now.wires (length s.problem.now.modules.items)) taken2 → IsStateOf s.problem.now next2 → IsSearch s table room taken2 less best current next2
search_next s table room taken taken2 less best current next next2 is are state = record {
  setting = is.setting;
  is_problem = is.is_problem;
  is_sound = is.is_sound;
  has_room = is.has_room;
  are_taken = are;
  as_many_less = is.as_many_less;
  best_is = is.best_is;
  current_is = is.current_is;
  next_is = state;
}

-- a search with another next state, and other loads on one wire less
pub search_fit : (s : SearchSetting) (table : TableValue) (room : ScheduleRoom) (taken : List DealtModule) (less less2 : List ℕ) (best current next next2 : State) → IsSearch s table room taken less best current next →
    length less2 ≡ length less → IsStateOf s.problem.now next2 → IsSearch s table room taken less2 best current next2
search_fit s table room taken less less2 best current next next2 is long state = record {
  setting = is.setting;
  is_problem = is.is_problem;
  is_sound = is.is_sound;
  has_room = is.has_room;
  are_taken = is.are_taken;
  as_many_less = long ∙ is.as_many_less;
  best_is = is.best_is;
  current_is = is.current_is;
  next_is = state;
}
