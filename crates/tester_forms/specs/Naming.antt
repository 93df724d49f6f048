-- The names of controls, and the variables that have them.
use Rattle.std.specs.Prelude.{◌≡◌, ℕ, Some, List, [], ◌∷◌, slice_get}
use Rattle.controls.specs.declared.Control.{Control}
use Rattle.controls.specs.declared.Control.TheVariants as control
use Rattle.tester_forms.specs.Variables.{OfDriven, OfCompared, OfControl, Scope, Source, Variable, run_name, shift_name, capture_name}

-- the name of a control
abbrev pub control_name : Control → List ℕ
control_name (control.Run id) = run_name id.«module» id.test
control_name (control.Shift m) = shift_name m
control_name (control.Capture m) = capture_name m

-- the variable has the name of the control that it shows
abbrev pub NamesSource : (controls : List Control) → (name : List ℕ) → Source → Type 0
NamesSource controls name (OfDriven w) = Unit {0}
NamesSource controls name (OfCompared w) = Unit {0}
NamesSource controls name (OfControl p) = (x : Control) × (slice_get controls p ≡ Some x) × (name ≡ control_name x)

abbrev pub IsNamed : (controls : List Control) → Variable → Type 0
IsNamed controls v = NamesSource controls v.name v.source

-- each of them does
abbrev pub AreNamed : (controls : List Control) → List Variable → Type 0
AreNamed controls [] = Unit {0}
AreNamed controls (v ∷ vs) = IsNamed controls v × AreNamed controls vs

abbrev pub ScopesNamed : (controls : List Control) → List Scope → Type 0
ScopesNamed controls [] = Unit {0}
ScopesNamed controls (s ∷ ss) = AreNamed controls s.variables × ScopesNamed controls ss
