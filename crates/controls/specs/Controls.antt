-- The controls of a chip's wrappers, in their order, and which of them are 1 at a cycle of a plan.
use Rattle.std.specs.Prelude.{ℕ, Bool, true, false, Option, None, Some, List, ◌++◌, ◌&&◌, map, nat_eq, if◌then◌else◌}
use Rattle.std.specs.List.{filter, list_any}
use Rattle.soc_model.specs.declared.Test.{Test}
use Rattle.soc_model.specs.declared.TestId.{TestId}
use Rattle.soc_model.specs.Chips.{ModuleValue, SocValue, is_live, same_test}
use Rattle.soc_model.specs.Modes.{has_tam}
use Rattle.plan_model.specs.Operations.{Operation, Setup, Shift, Capture, SelfTest}
use Rattle.plan_model.specs.Plans.{PlanValue, PlannedTest, planned, is_active}
use Rattle.plan_model.specs.Rules.{live_ids}
use Rattle.plan_model.specs.Runs.{operation_at}
use Rattle.controls.specs.declared.Control.{Control}
use Rattle.controls.specs.declared.Control.TheVariants as control

-- ---- which controls there are

-- the control of a live test
abbrev pub run_of : TestId → Control
run_of id = control.Run id

-- the controls of the module of a number
abbrev pub shift_of : ℕ → Control
shift_of m = control.Shift m

abbrev pub capture_of : ℕ → Control
capture_of m = control.Capture m

-- those of the live tests of a module
abbrev pub runs_in : ModuleValue → List Control
runs_in m = map (λ (t : Test). run_of (record { «module» = m.number; test = t.number })) (filter is_live m.tests)

-- the numbers of the modules with a live test over the wires, in the order of the chip
abbrev pub tam_numbers : SocValue → List ℕ
tam_numbers soc = map (λ (m : ModuleValue). m.number) (filter has_tam soc.modules)

-- All controls: one for each live test, then one for the Shifts of each module with a live test over the wires, then one for the
-- Captures of each of these; each time in the order of the chip.
unfoldable pub controls : SocValue → List Control
controls soc = map run_of (live_ids soc) ++ (map shift_of (tam_numbers soc) ++ map capture_of (tam_numbers soc))

-- ---- when a control is 1

-- it is a Shift; it is a Capture, of any pattern
abbrev pub is_shift : Option Operation → Bool
is_shift None = false
is_shift (Some Setup) = false
is_shift (Some Shift) = true
is_shift (Some (Capture k)) = false
is_shift (Some SelfTest) = false

abbrev pub is_capture : Option Operation → Bool
is_capture None = false
is_capture (Some Setup) = false
is_capture (Some Shift) = false
is_capture (Some (Capture k)) = true
is_capture (Some SelfTest) = false

-- Whether a control is 1 at a cycle. That of a test is where some test of that name is active, those of a module are where the operation
-- of some test of that module is a Shift or a Capture.
abbrev pub control_at : List PlannedTest → (cycle : ℕ) → Control → Bool
control_at tests c (control.Run id) = list_any (λ (t : PlannedTest). same_test t.id id && is_active c t) tests
control_at tests c (control.Shift m) = list_any (λ (t : PlannedTest). nat_eq t.id.«module» m && is_shift (operation_at t c)) tests
control_at tests c (control.Capture m) = list_any (λ (t : PlannedTest). nat_eq t.id.«module» m && is_capture (operation_at t c)) tests

-- a bit as the byte of its digit
abbrev pub bit_digit : Bool → ℕ
bit_digit bit = if bit then 49 else 48

-- the controls at a cycle of a plan, each as a digit
unfoldable pub control_row : SocValue → PlanValue → (cycle : ℕ) → List ℕ
control_row soc plan c = map (λ (x : Control). bit_digit (control_at (planned soc plan) c x)) (controls soc)
