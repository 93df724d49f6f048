-- The wires of buses.
use Rattle.std.specs.Prelude.{◌≡◌, ℕ, ◌+◌, ◌≤◌, List, length, take, slice_index}
use Rattle.std.specs.List.{sum}

-- For each bus of these widths its first wire, behind the wires of the buses before it, and at the end the number of all wires.
pub record AreFirstWires (widths wires : List ℕ) : Type 0 where
  pub long : length wires ≡ length widths + 1
  pub first : (b : ℕ) → b ≤ length widths → slice_index wires b ≡ sum (take b widths)
