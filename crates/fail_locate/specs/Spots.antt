-- The response bit that a tester reads at a cycle on a wire.
use Rattle.std.specs.Prelude.{◌≡◌, ℕ}
use Rattle.soc_model.specs.Chips.{SocValue}
use Rattle.plan_model.specs.Cells as cells
use Rattle.plan_model.specs.Plans.{PlanValue, PlannedTest, planned}
use Rattle.plan_model.specs.Right.{IsAt, IsReadAt}
use Rattle.plan_model.specs.Runs.{Content, state_at, shown}
use Rattle.fail_locate.specs.declared.Cell.{Cell}
use Rattle.fail_locate.specs.declared.Cell.TheVariants.{Flop, Out}
use Rattle.fail_locate.specs.declared.Spot.{Spot}

-- what a locator is made for
pub record LocatorValue : Type 0 where
  pub soc : SocValue
  pub plan : PlanValue

-- the cell of a module
abbrev pub cell_value : Cell → cells.Cell
cell_value (Flop chain place) = cells.Flop chain place
cell_value (Out number) = cells.Out number

-- At the cycle the wire shows a bit of the response of a test of the plan: that of this pattern for this cell.
pub record IsSpot (soc : SocValue) (plan : PlanValue) (cycle wire : ℕ) (spot : Spot) : Type 0 where
  pub place : ℕ
  pub test : PlannedTest
  pub at : IsAt (planned soc plan) place test
  pub name : spot.test ≡ test.id
  pub read : IsReadAt test spot.pattern (cell_value spot.cell) cycle wire

-- In the run of the plan with a content the wire shows that bit of the content's response at the cycle.
pub record IsShown (soc : SocValue) (plan : PlanValue) (content : Content) (cycle wire : ℕ) (spot : Spot) : Type 0 where
  pub spot_is : IsSpot soc plan cycle wire spot
  pub bit : shown (planned soc plan) (state_at content (planned soc plan) cycle) cycle wire
      ≡ content.response spot.test spot.pattern (cell_value spot.cell)

-- at the cycle the wire shows no bit of a response
abbrev pub IsNoSpot : SocValue → PlanValue → ℕ → ℕ → Type 0
IsNoSpot soc plan cycle wire = (i k : ℕ) (t : PlannedTest) (x : cells.Cell) → IsAt (planned soc plan) i t → IsReadAt t k x cycle wire → ⊥
