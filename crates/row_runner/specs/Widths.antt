-- The wires of a chip that is stepped.
use Rattle.std.specs.Prelude.{◌≡◌, ℕ, length}
use Rattle.row_runner.specs.declared.chips.Wires.{Wires}

-- there is a bit for each wire
pub record IsWide (count : ℕ) (wires : Wires) : Type 0 where
  pub drive : length wires.drive.items ≡ count
  pub care : length wires.care.items ≡ count
  pub read : length wires.read.items ≡ count
