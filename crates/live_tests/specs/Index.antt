-- A plan whose buses, wrappers and starts are found by numbers.
use mathlib.Core.Bool.{beq}
use Rattle.std.specs.Prelude.{◌≡◌, ℕ, Bool, ◌&&◌, List, length, nat_eq, position, unwrap_or}
use Rattle.std.specs.Map.{lookup}
use Rattle.soc_model.specs.declared.TestId.{TestId}
use Rattle.soc_model.specs.Chips.{same_test}
use Rattle.plan_model.specs.Plans.{BusValue, PlanValue, bus_place, wraps}

-- a pair of a module and a mode is this one
abbrev pub is_pair : ℕ → Bool → ℕ × Bool → Bool
is_pair m scan p = nat_eq m p.0 && beq scan p.1

-- the place that a module finds is that of the first bus that lists it
abbrev pub AreBusPlaces : List (ℕ × ℕ) → List BusValue → Type 0
AreBusPlaces places buses = (m : ℕ) → unwrap_or (lookup (nat_eq m) places) (length buses) ≡ bus_place m 0 buses

-- what each number finds is what the plan has first of it
pub record IsIndex (plan : PlanValue) (buses : List (ℕ × ℕ)) (wrappers : List ((ℕ × Bool) × ℕ)) (starts : List (TestId × ℕ)) : Type 0 where
  pub bus : AreBusPlaces buses plan.buses
  pub wrapper : (m : ℕ) (scan : Bool) → lookup (is_pair m scan) wrappers ≡ position (wraps m scan) plan.wrappers
  pub start : (id : TestId) → lookup (same_test id) starts ≡ lookup (same_test id) plan.starts
