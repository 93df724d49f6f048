-- A search, as it begins and as it ends.
use Rattle.std.specs.Prelude.{◌≡◌, ℕ, ◌≤◌, true, false, List, length}
use Rattle.resource_table.specs.Jobs.{JobValue}
use Rattle.schedule_search.specs.Orders.{IsTopological}
use Rattle.schedule_search.specs.OrderCycles.{Takes}
use Rattle.schedule_search.specs.Exchanges.{NoExchangeHelps}
use Rattle.schedule_search.specs.Walks.{stands_before, IsWithinBudget, HasMoreOpen}
use Rattle.schedule_search.specs.Progress.{Stand, AtMostFirst}

-- it begins with the first order, and has entered none
pub record IsBegun (job : JobValue) (first : List ℕ) (s : Stand) : Type 0 where
  pub best : s.best ≡ first
  pub takes : Takes job first s.cycles
  pub none : s.entered ≡ 0
  pub going : s.refused ≡ false

-- the best order after the exchanges
pub record IsImproved (job : JobValue) (old new : Stand) : Type 0 where
  pub topological : IsTopological job new.best
  pub takes : Takes job new.best new.cycles
  pub most : new.cycles ≤ old.cycles
  pub same : new.cycles ≡ old.cycles → new.best ≡ old.best
  pub refused : new.refused ≡ old.refused
  pub no_gain : length job.tests ≤ 64 → NoExchangeHelps job new.best new.cycles

-- what is found, but for the starts
pub record IsSearched (job : JobValue) (budget : ℕ) (s : Stand) : Type 0 where
  pub topological : IsTopological job s.best
  pub takes : Takes job s.best s.cycles
  pub at_most_first : AtMostFirst job s.cycles
  pub within : (other : List ℕ) (c : ℕ) → IsWithinBudget job budget other → Takes job other c → s.cycles ≤ c
  pub no_gain : length job.tests ≤ 64 → NoExchangeHelps job s.best s.cycles
  pub fewest : s.refused ≡ false → (other : List ℕ) (c : ℕ) → IsTopological job other → Takes job other c → s.cycles ≤ c
  pub earliest : s.refused ≡ false → (other : List ℕ) → IsTopological job other → Takes job other s.cycles →
      stands_before job other s.best ≡ false
  pub refused : s.refused ≡ true → HasMoreOpen job budget
