-- What a search finds.
use Rattle.std.specs.Prelude.{◌≡◌, ℕ, ◌≤◌, Bool, true, false, List, length, map}
use Rattle.resource_table.specs.declared.Placement.{Placement}
use Rattle.resource_table.specs.Jobs.{JobValue}
use Rattle.resource_table.specs.Schedules.{last_end, IsListSchedule}
use Rattle.schedule_search.specs.Orders.{IsTopological, IsFirstOrder}
use Rattle.schedule_search.specs.OrderCycles.{Takes}
use Rattle.schedule_search.specs.Exchanges.{NoExchangeHelps}
use Rattle.schedule_search.specs.Walks.{stands_before, IsWithinBudget, HasMoreOpen}

-- the list schedule of an order has these starts, in its order, and takes `cycles` cycles
pub record HasStarts (job : JobValue) (order starts : List ℕ) (cycles : ℕ) : Type 0 where
  pub placed : List Placement
  pub in_order : map (λ (p : Placement). p.test) placed ≡ order
  pub list : IsListSchedule job placed
  pub starts_are : starts ≡ map (λ (p : Placement). p.start) placed
  pub ends : cycles ≡ last_end job placed

-- An order that is found within a budget, the starts of its list schedule, and the cycles that this takes.
pub record IsFound (job : JobValue) (budget : ℕ) (order starts : List ℕ) (cycles : ℕ) (complete : Bool) : Type 0 where
  pub topological : IsTopological job order
  pub schedule : HasStarts job order starts cycles
  -- the first order takes as many cycles, or more
  pub at_most_first : (first : List ℕ) (c : ℕ) → IsFirstOrder job first → Takes job first c → cycles ≤ c
  -- and so does each order within the budget
  pub within : (other : List ℕ) (c : ℕ) → IsWithinBudget job budget other → Takes job other c → cycles ≤ c
  -- up to 64 tests, no exchange of two neighbours gives an order of fewer cycles
  pub no_gain : length job.tests ≤ 64 → NoExchangeHelps job order cycles
  -- a complete search has the fewest cycles of all orders, and the first order that takes them
  pub fewest : complete ≡ true → (other : List ℕ) (c : ℕ) → IsTopological job other → Takes job other c → cycles ≤ c
  pub earliest : complete ≡ true → (other : List ℕ) → IsTopological job other → Takes job other cycles →
      stands_before job other order ≡ false
  -- a search is incomplete only where it may not enter all open entries
  pub refused : complete ≡ false → HasMoreOpen job budget
