-- The variables of a value change dump, in the scopes that a viewer shows them in.
use Rattle.std.specs.Prelude.{ℕ, ◌+◌, Bool, true, false, List, [], ◌∷◌, ◌++◌, length, map, codes, decimal}
use Rattle.std.specs.List.{filter, flat_map, range_with_len}
use Rattle.soc_model.specs.declared.Test.{Test}
use Rattle.soc_model.specs.Chips.{ModuleValue, SocValue, is_live}
use Rattle.soc_model.specs.Modes.{has_tam}
use Rattle.plan_model.specs.Plans.{BusValue, PlanValue}
use Rattle.plan_model.specs.Rules.{live_ids}
use Rattle.controls.specs.Controls.{tam_numbers}

-- what a variable shows: the bit that a wire carries, the one that is compared there, or a control, by its place among the controls
pub data Source : Type 0 where
  OfDriven : (wire : ℕ) → Source
  OfCompared : (wire : ℕ) → Source
  OfControl : (place : ℕ) → Source

pub record Variable : Type 0 where
  pub name : List ℕ
  pub source : Source

pub record Scope : Type 0 where
  pub name : List ℕ
  pub variables : List Variable

-- ---- wires

-- those of a wire, which counts from 0 over all buses
abbrev pub wire_variables : (wire : ℕ) → List Variable
wire_variables x =
    record { name = codes "wi_" ++ decimal x; source = OfDriven x }
    ∷ record { name = codes "wo_" ++ decimal x; source = OfCompared x }
    ∷ []

-- that of a bus at a place, whose first wire is `first`
abbrev pub bus_scope : (place first width : ℕ) → Scope
bus_scope place first width = record {
  name = codes "bus_" ++ decimal place;
  variables = flat_map wire_variables (range_with_len first width);
}

-- those of buses, of which the first is at `place`, with its first wire `first`
abbrev pub bus_scopes : (place first : ℕ) → List BusValue → List Scope
bus_scopes place first [] = []
bus_scopes place first (b ∷ bs) = bus_scope place first b.width ∷ bus_scopes (place + 1) (first + b.width) bs

-- ---- controls

-- a word, a module's number and a test's
abbrev pub run_name : (number test : ℕ) → List ℕ
run_name number test = codes "run_" ++ (decimal number ++ (codes "_" ++ decimal test))

abbrev pub shift_name : (number : ℕ) → List ℕ
shift_name number = codes "shift_" ++ decimal number

abbrev pub capture_name : (number : ℕ) → List ℕ
capture_name number = codes "capture_" ++ decimal number

abbrev pub run_variable : (number test run : ℕ) → Variable
run_variable number test run = record { name = run_name number test; source = OfControl run }

-- those of live tests of a module, of which the first has its control at `run`
abbrev pub run_variables : (number run : ℕ) → List Test → List Variable
run_variables number run [] = []
run_variables number run (t ∷ ts) = run_variable number t.number run ∷ run_variables number (run + 1) ts

-- those of a module's Shifts and Captures, where it has any
abbrev pub wired_variables : (number shift capture : ℕ) → Bool → List Variable
wired_variables number shift capture true =
    record { name = shift_name number; source = OfControl shift }
    ∷ record { name = capture_name number; source = OfControl capture }
    ∷ []
wired_variables number shift capture false = []

-- that of a module with these live tests, where it has any
abbrev pub module_scope : (number : ℕ) → (variables : List Variable) → List Test → List Scope
module_scope number variables [] = []
module_scope number variables (t ∷ ts) = record { name = codes "module_" ++ decimal number; variables = variables } ∷ []

abbrev pub live_of_module : ModuleValue → List Test
live_of_module m = filter is_live m.tests

-- 1 where it is true
abbrev pub one_if : Bool → ℕ
one_if true = 1
one_if false = 0

-- The scope of a module, where it has a live test. The controls are those of all live tests, then the Shifts of all modules with a live
-- test over the wires, of which there are `wired`, then their Captures. The module's first live test has its control at `run`, and its
-- Shift, where it has one, is at `shift`.
abbrev pub scope_of_module : (run shift wired : ℕ) → ModuleValue → List Scope
scope_of_module run shift wired m =
    module_scope m.number
    (run_variables m.number run (live_of_module m) ++ wired_variables m.number shift (shift + wired) (has_tam m)) (live_of_module m)

-- those of modules
abbrev pub module_scopes : (wired run shift : ℕ) → List ModuleValue → List Scope
module_scopes wired run shift [] = []
module_scopes wired run shift (m ∷ ms) =
    scope_of_module run shift wired m
    ++ module_scopes wired (run + length (live_of_module m)) (shift + one_if (has_tam m)) ms

-- ---- all

abbrev pub scopes_of : SocValue → PlanValue → List Scope
scopes_of soc plan =
    bus_scopes 0 0 plan.buses ++ module_scopes (length (tam_numbers soc)) 0 (length (live_ids soc)) soc.modules

-- what the variables show, in their order
abbrev pub sources_in : List Variable → List Source
sources_in variables = map (λ (v : Variable). v.source) variables

abbrev pub sources_of : List Scope → List Source
sources_of scopes = flat_map (λ (s : Scope). sources_in s.variables) scopes
