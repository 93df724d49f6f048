-- The response bit that is read at a cycle on a wire, by counting back to the last capture of the test that uses the wire.
use Rattle.std.specs.Prelude.{ℕ, Option, None, Some, option_map}
use Rattle.soc_model.specs.declared.TestId.{TestId}
use Rattle.soc_model.specs.Chips.{SocValue}
use Rattle.plan_model.specs.Cells as cells
use Rattle.plan_model.specs.Plans.{PlannedTest, PlanValue, planned, uses, of_first}
use Rattle.live_tests.specs.Reads.{read_of}
use Rattle.fail_locate.specs.declared.Cell.{Cell}
use Rattle.fail_locate.specs.declared.Cell.TheVariants.{Flop, Out}
use Rattle.fail_locate.specs.declared.Spot.{Spot}

-- the cell, where it is one that is read
abbrev pub found_cell : cells.Cell → Option Cell
found_cell (cells.In number) = None
found_cell (cells.Flop chain place) = Some (Flop chain place)
found_cell (cells.Out number) = Some (Out number)

-- the spot of a pattern and a cell of a test
abbrev pub named_spot : TestId → Option (ℕ × cells.Cell) → Option Spot
named_spot id None = None
named_spot id (Some read) = option_map (λ (cell : Cell). record { test = id; pattern = read.0; cell = cell }) (found_cell read.1)

-- the spot of a test on a wire that it uses
abbrev pub spot_of : (cycle wire : ℕ) → PlannedTest → Option Spot
spot_of c w t = named_spot t.id (read_of c w t)

-- the spot at a cycle on a wire: that of the test that uses it
abbrev pub spot_at : SocValue → PlanValue → (cycle wire : ℕ) → Option Spot
spot_at soc plan c w = of_first (uses c w) (spot_of c w) None (planned soc plan)
