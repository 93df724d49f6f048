-- The tests over the wires of a chip as a plan places them.
use Rattle.std.specs.Prelude.{◌≡◌, ℕ, ◌<◌, ◌≤◌, ◌⊎◌, true, Some, List, map, slice_get}
use Rattle.std.specs.List.{filter}
use Rattle.soc_model.specs.declared.Test.{Test}
use Rattle.soc_model.specs.Chips.{ModuleValue, SocValue, is_live}
use Rattle.plan_model.specs.Cells.{IsProper, chain_cells, out_length}
use Rattle.plan_model.specs.Moments.{ArePhases, phase_ops}
use Rattle.plan_model.specs.Plans.{PlanValue, WrapperValue, PlannedTest, planned_test, end_of}
use Rattle.plan_model.specs.Runs.{chain_at}
use Rattle.fail_locate.specs.declared.wired.WiredTest.{WiredTest}

-- where the chains of a test stand: its module in the chip, and its wrapper in the plan
pub record IsWrapped (soc : SocValue) (plan : PlanValue) (u : PlannedTest) (t : WiredTest) : Type 0 where
  pub core : ModuleValue
  pub core_at : slice_get soc.modules t.place ≡ Some core
  pub wrapper : WrapperValue
  pub wrapper_at : slice_get plan.wrappers t.wrapper ≡ Some wrapper
  pub proper : IsProper core wrapper.scan wrapper.chains
  pub chains : u.chains ≡ chain_cells core wrapper.scan wrapper.chains

-- a planned test over the wires, as it is kept
pub record IsWired (soc : SocValue) (plan : PlanValue) (u : PlannedTest) (t : WiredTest) : Type 0 where
  pub tam : u.tam ≡ true
  pub id : t.id ≡ u.id
  pub bus : t.bus ≡ u.bus
  pub start : t.start ≡ u.start
  pub ends : t.end ≡ end_of u
  pub phases : ArePhases t.phases
  pub operations : u.operations ≡ phase_ops t.phases
  pub out_fits : (j : ℕ) → out_length (chain_at u j) ≤ t.phases.so
  pub wrapped : IsWrapped soc plan u t

-- each kept test is one of the planned ones
pub record IsPlanned (soc : SocValue) (plan : PlanValue) (done : List PlannedTest) (t : WiredTest) : Type 0 where
  pub place : ℕ
  pub test : PlannedTest
  pub at : slice_get done place ≡ Some test
  pub wired : IsWired soc plan test t

-- a planned test is kept, on its bus and with its start
pub record IsKept (tests : List WiredTest) (u : PlannedTest) : Type 0 where
  pub place : ℕ
  pub test : WiredTest
  pub at : slice_get tests place ≡ Some test
  pub bus : test.bus ≡ u.bus
  pub start : test.start ≡ u.start

-- the planned tests over the wires are kept, and no others
pub record AreWired (soc : SocValue) (plan : PlanValue) (done : List PlannedTest) (tests : List WiredTest) : Type 0 where
  pub planned : (n : ℕ) (t : WiredTest) → slice_get tests n ≡ Some t → IsPlanned soc plan done t
  pub kept : (i : ℕ) (u : PlannedTest) → slice_get done i ≡ Some u → u.tam ≡ true → IsKept tests u

-- the live ones of some tests of the module at a place, as the plan places them
abbrev pub placed_tests : PlanValue → ℕ → ModuleValue → List Test → List PlannedTest
placed_tests plan place m tests = map (planned_test plan place m) (filter is_live tests)

-- on an earlier bus, or on the same one and no later
abbrev pub NoLater : WiredTest → WiredTest → Type 0
NoLater t u = (t.bus < u.bus) ⊎ ((t.bus ≡ u.bus) × (t.start ≤ u.start))

-- by bus, and on a bus by start
abbrev pub AreInOrder : List WiredTest → Type 0
AreInOrder tests = (i j : ℕ) (t u : WiredTest) → i ≤ j → slice_get tests i ≡ Some t → slice_get tests j ≡ Some u → NoLater t u
