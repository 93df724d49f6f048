-- Rows of digits in columns, and which of them a live test makes a 1.
use Rattle.std.specs.Prelude.{◌≡◌, ℕ, ◌+◌, ◌-◌, ◌*◌, ◌<◌, Bool, false, ◌&&◌, ◌||◌, Option, None, List, [], ◌∷◌, length, nat_eq, nat_le, nat_lt, slice_get, slice_index, if◌then◌else◌}
use Rattle.plan_model.specs.Moments.{phase_ops}
use Rattle.plan_model.specs.Operations.{Operation}
use Rattle.controls.specs.Controls.{is_capture, is_shift}
use Rattle.controls.specs.declared.columns.ModuleColumns.{ModuleColumns}
use Rattle.controls.specs.declared.placing.ControlledTest.{ControlledTest}
use Rattle.controls.specs.declared.spells.Action.{Action}
use Rattle.controls.specs.Spells.{captures, shifts}

-- the byte in a column of a row
abbrev pub byte_at : (text : List ℕ) (columns row column : ℕ) → ℕ
byte_at text columns row column = slice_index text (row * columns + column)

-- in `count` rows from one on a `1` was put into these columns, and all else is as it was
pub record AreOnes (put : (column : ℕ) → Bool) (columns row count : ℕ) (old new : List ℕ) : Type 0 where
  pub long : length new ≡ length old
  pub bytes : (r x : ℕ) → x < columns →
      byte_at new columns r x ≡ (if put x && (nat_le row r && nat_lt r (row + count)) then 49 else byte_at old columns r x)

-- in the rows of `count` cycles a `1` was put into the columns that `put` says of a cycle, and all else is as it was
pub record ArePut (put : (cycle column : ℕ) → Bool) (columns from count : ℕ) (old new : List ℕ) : Type 0 where
  pub long : length new ≡ length old
  pub bytes : (r x : ℕ) → r < count → x < columns →
      byte_at new columns r x ≡ (if put (from + r) x then 49 else byte_at old columns r x)

-- ---- what a live test makes a 1

-- the column of what is done
abbrev pub does : ModuleColumns → Action → (column : ℕ) → Bool
does own a x = (nat_eq x own.shift && shifts a) || (nat_eq x own.capture && captures a)

-- its own control, where it is active
abbrev pub is_run : (own : ℕ) → ControlledTest → (cycle column : ℕ) → Bool
is_run own t c x = nat_eq x own && (nat_le t.start c && nat_lt c t.end)

-- the operation of a test over the wires
abbrev pub operation_of : ControlledTest → (cycle : ℕ) → Option Operation
operation_of t c = if nat_le t.start c then slice_get (phase_ops t.phases) (c - t.start) else None

-- the controls of its module, where it shifts or captures
abbrev pub is_told : ModuleColumns → ControlledTest → (cycle column : ℕ) → Bool
is_told own t c x = (nat_eq x own.shift && is_shift (operation_of t c)) || (nat_eq x own.capture && is_capture (operation_of t c))

-- both
abbrev pub tells : (column : ℕ) → ModuleColumns → ControlledTest → (cycle column : ℕ) → Bool
tells column own t c x = is_run column t c x || (t.tam && is_told own t c x)

-- the columns of a module's controls, behind those of `runs` tests; `before` of `modules` modules come before it
abbrev pub own_columns : (runs modules before : ℕ) → ModuleColumns
own_columns runs modules before = record { shift = runs + before; capture = runs + modules + before }

-- what some tests tell together, from the one at place `i` on
unfoldable pub told_from : (runs modules i : ℕ) → List ControlledTest → (cycle column : ℕ) → Bool
told_from runs modules i [] c x = false
told_from runs modules i (t ∷ ts) c x = tells i (own_columns runs modules t.before) t c x || told_from runs modules (i + 1) ts c x
