-- Starts that are noted as tests are placed.
use Rattle.std.specs.Prelude.{◌≡◌, ℕ, List, map}
use Rattle.resource_table.specs.declared.Placement.{Placement}
use Rattle.resource_table.specs.Jobs.{JobValue}
use Rattle.resource_table.specs.Schedules.{TableValue, IsListSchedule}
use Rattle.schedule_search.specs.OrderCycles.{Takes}
use Rattle.schedule_search.specs.Found.{HasStarts}

-- the list schedule of an order stands in a table, and its starts are noted
pub record HasNoted (t : TableValue) (order starts : List ℕ) : Type 0 where
  pub in_order : map (λ (p : Placement). p.test) t.placed ≡ order
  pub list : IsListSchedule t.job t.placed
  pub starts_are : starts ≡ map (λ (p : Placement). p.start) t.placed

-- these are the starts of an order, whatever cycles it takes
abbrev pub AreStarts : JobValue → List ℕ → List ℕ → Type 0
AreStarts job order starts = (cycles : ℕ) → Takes job order cycles → HasStarts job order starts cycles
