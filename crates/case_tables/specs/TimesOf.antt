-- The times that the tables of a search are made from.
use Rattle.std.specs.Prelude.{◌≡◌, ℕ}
use Rattle.soc_model.specs.Chips.{SocValue}
use Rattle.live_tests.specs.Problems.{ProblemValue}

-- a table of times is for the chip, on the wires of its limits
pub record AreTimesOf (p : ProblemValue) (chip : SocValue) (wires : ℕ) : Type 0 where
  pub chip_is : chip ≡ p.soc
  pub wires_are : wires ≡ p.limits.wires
