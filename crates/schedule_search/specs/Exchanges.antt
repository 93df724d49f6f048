-- Exchanges of neighbours in an order.
use Rattle.std.specs.Prelude.{◌≡◌, ℕ, ◌+◌, ◌<◌, ◌≤◌, List, length}
use Rattle.std.specs.List.{swap}
use Rattle.resource_table.specs.Jobs.{JobValue}
use Rattle.schedule_search.specs.Orders.{IsTopological}
use Rattle.schedule_search.specs.OrderCycles.{Takes}

-- the tests at a place and at the next one, each in the other's place
abbrev pub exchanged : List ℕ → ℕ → List ℕ
exchanged order place = swap order place (place + 1)

-- the exchange at a place gives no topological order that takes fewer than `cycles` cycles
abbrev pub NoGainAt : JobValue → List ℕ → (place cycles : ℕ) → Type 0
NoGainAt job order place cycles = (c : ℕ) → IsTopological job (exchanged order place) → Takes job (exchanged order place) c → cycles ≤ c

-- no exchange of two neighbours gives a topological order that takes fewer than `cycles` cycles
abbrev pub NoExchangeHelps : JobValue → List ℕ → (cycles : ℕ) → Type 0
NoExchangeHelps job order cycles = (place : ℕ) → place + 1 < length order → NoGainAt job order place cycles

-- a topological order of `tests` tests takes `cycles` cycles, fewer than `before`
pub record TakesFewer (job : JobValue) (tests before : ℕ) (order : List ℕ) (cycles : ℕ) : Type 0 where
  pub topological : IsTopological job order
  pub takes : Takes job order cycles
  pub fewer : cycles < before
  pub long : length order ≡ tests
