-- How long a test over the wires goes on with what it does.
use Rattle.std.specs.Prelude.{◌≡◌, ℕ, ◌+◌, ◌<◌, Bool, true, false, Option, length, slice_get}
use Rattle.plan_model.specs.Moments.{phase_ops}
use Rattle.plan_model.specs.Operations.{Operation}
use Rattle.plan_model.specs.declared.moments.Phases.{Phases}
use Rattle.controls.specs.Controls.{is_capture, is_shift}
use Rattle.controls.specs.declared.spells.Action.{Action}
use Rattle.controls.specs.declared.spells.Action.TheVariants as action
use Rattle.controls.specs.declared.spells.Spell.{Spell}

abbrev pub shifts : Action → Bool
shifts action.Rest = false
shifts action.Shift = true
shifts action.Capture = false

abbrev pub captures : Action → Bool
captures action.Rest = false
captures action.Shift = false
captures action.Capture = true

-- the action is that of an operation
pub record IsAction (op : Option Operation) (a : Action) : Type 0 where
  pub shift : is_shift op ≡ shifts a
  pub capture : is_capture op ≡ captures a

-- from operation `n` on, the operations of so many cycles are of this action, up to the last one
abbrev pub GoesOn : Phases → (n : ℕ) → Spell → Type 0
GoesOn p n spell = (i : ℕ) → i < spell.cycles → n + i < length (phase_ops p) → IsAction (slice_get (phase_ops p) (n + i)) spell.action
