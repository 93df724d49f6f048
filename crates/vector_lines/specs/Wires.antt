-- The wires of a plan: their number, what is read on them, and what its tests keep to.
use Rattle.std.specs.Prelude.{◌≡◌, ℕ, ◌+◌, ◌≤◌, true, Some, List, length}
use Rattle.std.specs.List.{sum}
use Rattle.plan_model.specs.Cells.{Cell}
use Rattle.plan_model.specs.Operations.{Capture}
use Rattle.plan_model.specs.Plans.{PlanValue, PlannedTest, uses, widths}
use Rattle.plan_model.specs.Right.{IsAt, IsReadAt}
use Rattle.plan_model.specs.Runs.{operation_at}

-- the wires of all buses
abbrev pub wires_of : PlanValue → ℕ
wires_of plan = sum (widths plan)

-- a response bit is read on the wire at the cycle: of a test, one of its patterns, and a cell
pub record IsCompared (tests : List PlannedTest) (c w : ℕ) : Type 0 where
  pub place : ℕ
  pub test : PlannedTest
  pub pattern : ℕ
  pub cell : Cell
  pub at : IsAt tests place test
  pub read : IsReadAt test pattern cell c w

-- what a good plan gives of its tests over `wires` wires: no wire has two users, and only what is on the wires is captured or read
pub record AreOnWires (tests : List PlannedTest) (wires : ℕ) : Type 0 where
  pub alone : (c x i i' : ℕ) (t t' : PlannedTest) → IsAt tests i t → IsAt tests i' t' → uses c x t ≡ true → uses c x t' ≡ true → i' ≡ i
  pub within : (i : ℕ) (t : PlannedTest) → IsAt tests i t → t.tam ≡ true → t.first_wire + t.width ≤ wires
  pub some : (i : ℕ) (t : PlannedTest) → IsAt tests i t → t.tam ≡ true → 1 ≤ t.width
  pub fit : (i : ℕ) (t : PlannedTest) → IsAt tests i t → length t.chains ≤ t.width
  pub captures : (i c k : ℕ) (t : PlannedTest) → IsAt tests i t → operation_at t c ≡ Some (Capture k) → t.tam ≡ true
  pub reads : (i k c w : ℕ) (t : PlannedTest) (x : Cell) → IsAt tests i t → IsReadAt t k x c w → uses c w t ≡ true
