-- The chip and the width table of packed wrappers.
use Rattle.std.specs.Prelude.{◌≡◌, ℕ, ◌≤◌}
use Rattle.soc_model.specs.Chips.{SocValue}
use Rattle.soc_model.specs.SoundChips.{IsSoundChip}
use Rattle.width_table.specs.Tables.{TableValue}

-- a sound chip, and a width table of it, on at least as many wires
pub record HasTable (soc : SocValue) (wires : ℕ) (table : TableValue) : Type 0 where
  pub sound : IsSoundChip soc
  pub chip : table.soc ≡ soc
  pub few : wires ≤ table.wires
