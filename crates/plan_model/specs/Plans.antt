-- A plan and its limits as plain lists and numbers, and the live tests of the chip as the plan places them.
use Rattle.std.specs.Prelude.{ℕ, ◌+◌, ◌-◌, ◌<◌, ◌≤◌, Bool, ◌&&◌, Option, List, [], ◌∷◌, map, max, min, length, replicate, nat_eq, nat_lt, nat_le, take, slice_index, if◌then◌else◌}
use Rattle.std.specs.List.{sum, sum_by, filter, list_any}
use Rattle.soc_model.specs.declared.Test.{Test}
use Rattle.soc_model.specs.declared.TestId.{TestId}
use Rattle.soc_model.specs.Chips.{ModuleValue, SocValue, LiveTest, live_tests, same_test}
pub use Rattle.soc_model.specs.Modes.{same_mode}
use Rattle.plan_model.specs.Cells.{Cell, ChainValue, cells_of, chain_cells, in_length, out_length}
use Rattle.plan_model.specs.Operations.{Operation, SelfTest, ops_of}

-- a test bus: its wires, and the numbers of the modules on it
pub record BusValue : Type 0 where
  pub width : ℕ
  pub modules : List ℕ

-- the wrapper of a module in one mode
pub record WrapperValue : Type 0 where
  pub «module» : ℕ
  pub scan : Bool
  pub chains : List ChainValue

-- why a number of cycles is a lower bound; modules and tests go by their numbers
pub data WhyValue : Type 0 where
  OfModule : (number : ℕ) → WhyValue
  OfPair : (number : ℕ) → WhyValue
  OfChain : (tests : List TestId) → WhyValue
  OfArea : WhyValue
  OfPower : WhyValue
  OfForced : (modules : List ℕ) → WhyValue

-- a certificate: a number of cycles that no good plan goes below, and why
pub record BoundValue : Type 0 where
  pub cycles : ℕ
  pub why : WhyValue

-- a plan: its buses, its wrappers, the start of each test in cycles, the cycles in all, and the certificate
pub record PlanValue : Type 0 where
  pub buses : List BusValue
  pub wrappers : List WrapperValue
  pub starts : List (TestId × ℕ)
  pub cycles : ℕ
  pub bound : BoundValue

-- a test's power in steps, each from a number of cycles after its start
pub record ProfileValue : Type 0 where
  pub test : TestId
  pub steps : List (ℕ × ℕ)

-- what a plan has to keep to: wires, power at a cycle, precedences; also the budget of a search, and the power of tests in steps
pub record LimitsValue : Type 0 where
  pub wires : ℕ
  pub power : Option ℕ
  pub before : List (TestId × TestId)
  pub budget : ℕ
  pub profiles : List ProfileValue

-- the first item that passes, seen by `f`, or `d`
abbrev pub of_first : {X Y : Type 0} → (X → Bool) → (X → Y) → Y → List X → Y
of_first p f d [] = d
of_first p f d (x ∷ xs) = if p x then f x else of_first p f d xs

-- A live test as the plan places it. Its module goes by its place in the chip, its bus by its place in the plan;
-- `cells` are all cells of the module in the mode of the test.
pub record PlannedTest : Type 0 where
  pub id : TestId
  pub place : ℕ
  pub tam : Bool
  pub patterns : ℕ
  pub power : ℕ
  pub start : ℕ
  pub bus : ℕ
  pub first_wire : ℕ
  pub width : ℕ
  pub cells : List Cell
  pub chains : List (List Cell)
  pub operations : List Operation

-- the first cycle after the test
abbrev pub end_of : PlannedTest → ℕ
end_of t = t.start + length t.operations

-- the greatest of some numbers, 0 where there is none
abbrev pub greatest : List ℕ → ℕ
greatest [] = 0
greatest (x ∷ xs) = max x (greatest xs)

-- the smallest of some numbers, 0 where there is none
abbrev pub smallest : List ℕ → ℕ
smallest [] = 0
smallest (x ∷ []) = x
smallest (x ∷ y ∷ ys) = min x (smallest (y ∷ ys))

-- the greatest in-length and the greatest out-length of chains
abbrev pub si_of : List (List Cell) → ℕ
si_of chains = greatest (map in_length chains)

abbrev pub so_of : List (List Cell) → ℕ
so_of chains = greatest (map out_length chains)

-- the bus lists the module
abbrev pub has_module : ℕ → BusValue → Bool
has_module m b = list_any (nat_eq m) b.modules

-- the wrapper is of that mode of the module
abbrev pub wraps : ℕ → Bool → WrapperValue → Bool
wraps m scan w = nat_eq w.«module» m && same_mode w.scan scan

-- the place of the first bus that lists the module, counted from `place`
abbrev pub bus_place : ℕ → ℕ → List BusValue → ℕ
bus_place m place [] = place
bus_place m place (b ∷ bs) = if has_module m b then place else bus_place m (place + 1) bs

-- the widths of the buses
abbrev pub widths : PlanValue → List ℕ
widths plan = map (λ (b : BusValue). b.width) plan.buses

-- the chains of a test in the mode of the test; a self test has none
abbrev pub chains_of : PlanValue → ModuleValue → Test → List (List Cell)
chains_of plan m t = if t.tam then chain_cells m t.scan (of_first (wraps m.number t.scan) (λ w. w.chains) [] plan.wrappers) else []

-- the operations of a test in these chains
abbrev pub operations_of : ModuleValue → Test → List (List Cell) → List Operation
operations_of m t chains =
    if t.tam then ops_of m.setup (si_of chains) (so_of chains) t.patterns else replicate t.patterns SelfTest

-- bus b has `width` wires, after those of the earlier buses
unfoldable pub planned_test : PlanValue → ℕ → ModuleValue → Test → PlannedTest
planned_test plan place m t =
    let id : TestId = record { «module» = m.number; test = t.number } in
    let bus = bus_place m.number 0 plan.buses in
    record {
      id = id;
      place = place;
      tam = t.tam;
      patterns = t.patterns;
      power = t.power;
      start = of_first (λ (s : TestId × ℕ). same_test s.0 id) (λ s. s.1) 0 plan.starts;
      bus = bus;
      first_wire = sum (take bus (widths plan));
      width = slice_index (widths plan) bus;
      cells = cells_of m t.scan;
      chains = chains_of plan m t;
      operations = operations_of m t (chains_of plan m t);
    }

-- the live tests of the chip as the plan places them, in the order of the chip
unfoldable pub planned : SocValue → PlanValue → List PlannedTest
planned soc plan = map (λ (l : LiveTest). planned_test plan l.place l.core l.test) (live_tests soc)

-- active at a cycle
abbrev pub IsActive : PlannedTest → ℕ → Type 0
IsActive t c = (t.start ≤ c) × (c < end_of t)

-- whether it is active
abbrev pub is_active : ℕ → PlannedTest → Bool
is_active c t = nat_le t.start c && nat_lt c (end_of t)

-- an active test on a bus that has the wire, whether or not it has a chain there
abbrev pub uses : ℕ → ℕ → PlannedTest → Bool
uses c x t = t.tam && (is_active c t && (nat_le t.first_wire x && nat_lt x (t.first_wire + t.width)))

-- all tests that use the wire at the cycle, in the order of the chip
abbrev pub users : List PlannedTest → ℕ → ℕ → List PlannedTest
users tests c x = filter (uses c x) tests

-- The power of a test, `r` cycles after its start: of the last step of its profile that is from then or before.
abbrev pub step_power : ℕ → ℕ → List (ℕ × ℕ) → ℕ
step_power r now [] = now
step_power r now (s ∷ steps) = if nat_le s.0 r then step_power r s.1 steps else step_power r now steps

-- a test without a profile draws its own power at every cycle
abbrev pub power_of_id : LimitsValue → TestId → ℕ → ℕ → ℕ
power_of_id limits id own r = of_first (λ (p : ProfileValue). same_test p.test id) (λ p. step_power r 0 p.steps) own limits.profiles

-- what a planned test draws, `r` cycles after its start
abbrev pub power_of : LimitsValue → PlannedTest → ℕ → ℕ
power_of limits t r = power_of_id limits t.id t.power r

-- what the active tests draw together at a cycle
abbrev pub power_at : LimitsValue → List PlannedTest → ℕ → ℕ
power_at limits tests c = sum_by (λ t. power_of limits t (c - t.start)) (filter (is_active c) tests)
