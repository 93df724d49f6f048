-- What stands on the wires and the controls at a cycle, and the part of a text that is made from it.
use Rattle.std.specs.Prelude.{◌≡◌, ℕ, ◌+◌, ◌++◌, List, Option, None, Some, length, option_map, take}
use Rattle.cycle_texts.specs.declared.forms.Row.{Row}

-- for each wire the bit that it carries and the one that is compared, and for each control its bit, in bytes
pub record CycleRow : Type 0 where
  pub driven : List ℕ
  pub compared : List ℕ
  pub controls : List ℕ

abbrev pub row_of : Row → CycleRow
row_of row = record { driven = row.driven.now; compared = row.compared.now; controls = row.controls.now }

abbrev pub option_row : Option Row → Option CycleRow
option_row row = option_map row_of row

-- it is of so many wires and so many controls
pub record HasSizes (wires count : ℕ) (row : CycleRow) : Type 0 where
  pub driven : length row.driven ≡ wires
  pub compared : length row.compared ≡ wires
  pub controls : length row.controls ≡ count

abbrev pub HaveSizes : (wires count : ℕ) → Option CycleRow → Type 0
HaveSizes wires count None = Unit {0}
HaveSizes wires count (Some row) = HasSizes wires count row

-- the part stands in the text from `at` on, up to `end`; what was before it is kept
pub record IsPutAt (at : ℕ) (part : List ℕ) (end : ℕ) (old new : List ℕ) : Type 0 where
  pub ends : end ≡ at + length part
  pub long : length new ≡ length old
  pub stands : take end new ≡ take at old ++ part
