-- The live tests of a chip as a plan places them.
use Rattle.std.specs.Prelude.{◌≡◌, ℕ, ◌+◌, Bool, Option, None, Some, List, length, map, slice_get, if◌then◌else◌}
use Rattle.std.specs.List.{filter}
use Rattle.soc_model.specs.declared.Test.{Test}
use Rattle.soc_model.specs.declared.TestId.{TestId}
use Rattle.soc_model.specs.Chips.{ModuleValue, SocValue, is_live, same_test}
use Rattle.plan_model.specs.Plans.{PlanValue, PlannedTest, planned, planned_test, end_of}
use Rattle.live_tests.specs.declared.placed.Placed.{Placed}
use Rattle.live_tests.specs.declared.placed.PlacedTest.{PlacedTest}
use Rattle.live_tests.specs.declared.wrapped.ModeWrappers.{ModeWrappers}
use Rattle.live_tests.specs.Wrapped.{AreModeWrappers}

-- the bus of a test over the wires; a self test has none
abbrev pub bus_over : (tam : Bool) (bus : ℕ) → Option ℕ
bus_over tam bus = if tam then Some bus else None

-- a test of that name of the module at a place, from a start on for `cycles` cycles
abbrev pub placed_at : TestId → (place : ℕ) → Test → (bus start cycles : ℕ) → PlacedTest
placed_at id place t bus start cycles =
    record { id = id; place = place; bus = bus_over t.tam bus; start = start; end = start + cycles; power = t.power }

-- what a placed test has of its planned one
abbrev pub placed_of : PlannedTest → PlacedTest
placed_of t = record { id = t.id; place = t.place; bus = bus_over t.tam t.bus; start = t.start; end = end_of t; power = t.power }

-- the live tests of a chip as a plan places them, in the order of the chip
abbrev pub placed_tests : SocValue → PlanValue → List PlacedTest
placed_tests soc plan = map placed_of (planned soc plan)

-- the live ones of some tests of the module at a place
abbrev pub placed_in : PlanValue → ℕ → ModuleValue → List Test → List PlacedTest
placed_in plan place m tests = map (λ (t : Test). placed_of (planned_test plan place m t)) (filter is_live tests)

-- the test has the name
abbrev pub is_called : TestId → PlacedTest → Bool
is_called id t = same_test id t.id

-- for each module of a chip its wrappers in a plan
pub record AreWalked (soc : SocValue) (plan : PlanValue) (wrappers : List ModeWrappers) : Type 0 where
  pub long : length wrappers ≡ length soc.modules
  pub are : (p : ℕ) (m : ModuleValue) (w : ModeWrappers) → slice_get soc.modules p ≡ Some m → slice_get wrappers p ≡ Some w →
      AreModeWrappers plan m w

-- the live tests of a chip as a plan places them, and the wrappers of its modules
pub record IsPlaced (soc : SocValue) (plan : PlanValue) (placed : Placed) : Type 0 where
  pub tests : placed.tests.items ≡ placed_tests soc plan
  pub wrappers : AreWalked soc plan placed.wrappers.items
