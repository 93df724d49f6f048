-- The widths whose designs are taken, and the rows of a table.
use Rattle.std.specs.Prelude.{◌≡◌, ℕ, ◌+◌, ◌-◌, ◌≤◌, ◌^◌, Bool, true, false, Option, Some, None, List, [], ◌∷◌, ◌++◌, length, slice_get, nat_lt, if◌then◌else◌}
use Rattle.soc_model.specs.Chips.{ModuleValue, SocValue}
use Rattle.soc_model.specs.SoundChips.{IsSoundChip}
use Rattle.wrapper_design.specs.Design.{Mode, mode_of, design}
use Rattle.wrapper_design.specs.Balance.{in_length_of, out_length_of}
use Rattle.width_table.specs.Times.{IsChosen, mode_tests, mode_time, time}
use Rattle.width_table.specs.declared.choosing.Choice.{Choice}
use Rattle.width_table.specs.declared.choosing.Choices.{Choices}
use Rattle.width_table.specs.declared.rows.ModuleRow.{ModuleRow}

-- the longest paths of the design at the width of a choice
pub record HasPaths (mode : Mode) (c : Choice) : Type 0 where
  pub si : c.si ≡ in_length_of mode (design mode c.width)
  pub so : c.so ≡ out_length_of mode (design mode c.width)

-- The least width up to `width` at which the mode's tests take the fewest cycles, with that many. The paths are those of
-- the design there, if there is any test.
pub record IsChoice (m : ModuleValue) (scan : Bool) (width : ℕ) (c : Choice) : Type 0 where
  pub chosen : IsChosen (mode_time m scan) width c.width
  pub cycles : c.cycles ≡ mode_time m scan c.width
  pub fits : c.cycles ≤ 10 ^ 18
  pub paths : 1 ≤ length (mode_tests m scan) → HasPaths (mode_of m scan) c

-- the choice at each width up to a number of wires, by its place among those that are taken
pub record AreChoices (m : ModuleValue) (scan : Bool) (wires : ℕ) (taken : List Choice) (places : List ℕ) : Type 0 where
  pub size : length places ≡ wires
  pub each : (k p : ℕ) → slice_get places k ≡ Some p → (c : Choice) × (slice_get taken p ≡ Some c) × IsChoice m scan (k + 1) c

abbrev pub fewer_than : Choice → Option Choice → Bool
fewer_than c None = true
fewer_than c (Some last) = nat_lt c.cycles last.cycles

abbrev pub last_of : List Choice → Option Choice
last_of taken = slice_get taken (length taken - 1)

-- a choice has fewer cycles than the last one, or is the first
abbrev pub takes_fewer : Choice → List Choice → Bool
takes_fewer c taken = fewer_than c (last_of taken)

abbrev pub with_choice : Choice → List Choice → List Choice
with_choice c taken = if takes_fewer c taken then taken ++ c ∷ [] else taken

-- the times of a module at each width up to a number of wires
pub record AreTimes (m : ModuleValue) (wires : ℕ) (times : List ℕ) : Type 0 where
  pub size : length times ≡ wires
  pub each : (k t : ℕ) → slice_get times k ≡ Some t → t ≡ time m (k + 1)

abbrev pub choices_in : Bool → ModuleRow → Choices
choices_in true r = r.scan
choices_in false r = r.terminals

-- the row of a module
pub record IsRow (m : ModuleValue) (wires : ℕ) (r : ModuleRow) : Type 0 where
  pub times : AreTimes m wires r.times.items
  pub scan : AreChoices m true wires r.scan.taken.items r.scan.places.items
  pub terminals : AreChoices m false wires r.terminals.taken.items r.terminals.places.items

-- the rows of the first modules of a chip
abbrev pub AreRows : List ModuleValue → ℕ → List ModuleRow → Type 0
AreRows modules wires rows =
    (place : ℕ) (m : ModuleValue) (r : ModuleRow) → slice_get modules place ≡ Some m → slice_get rows place ≡ Some r → IsRow m wires r

-- the rows of all modules of a sound chip
pub record HasRows (soc : SocValue) (wires : ℕ) (rows : List ModuleRow) : Type 0 where
  pub sound : IsSoundChip soc
  pub some : 1 ≤ wires
  pub few : wires ≤ 256
  pub as_many : length rows ≡ length soc.modules
  pub rows_are : AreRows soc.modules wires rows
