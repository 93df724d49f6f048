-- The cycles that an order takes.
use Rattle.std.specs.Prelude.{◌≡◌, ℕ, List, map}
use Rattle.resource_table.specs.declared.Placement.{Placement}
use Rattle.resource_table.specs.Jobs.{JobValue}
use Rattle.resource_table.specs.Schedules.{TableValue, last_end, IsListSchedule}

-- the list schedule of an order takes `cycles` cycles: each test in turn stands at the least start at which it fits
pub record Takes (job : JobValue) (order : List ℕ) (cycles : ℕ) : Type 0 where
  pub placed : List Placement
  pub in_order : map (λ (p : Placement). p.test) placed ≡ order
  pub list : IsListSchedule job placed
  pub ends : cycles ≡ last_end job placed

-- the list schedule of an order stands in a table, and takes `cycles` cycles
pub record HasPlaced (t : TableValue) (order : List ℕ) (cycles : ℕ) : Type 0 where
  pub in_order : map (λ (p : Placement). p.test) t.placed ≡ order
  pub list : IsListSchedule t.job t.placed
  pub ends : cycles ≡ last_end t.job t.placed
