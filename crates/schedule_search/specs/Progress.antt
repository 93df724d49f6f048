-- How far a walk has come, and what a stretch of it has shown.
use Rattle.std.specs.Prelude.{◌≡◌, ℕ, ◌+◌, ◌<◌, ◌≤◌, ◌⊎◌, Bool, true, false, List, [], ◌++◌, length, map, take}
use Rattle.std.specs.List.{All, Contains}
use Rattle.resource_table.specs.Jobs.{JobValue}
use Rattle.schedule_search.specs.declared.walk.Progress.{Progress}
use Rattle.schedule_search.specs.declared.tries.OrderTables.{OrderTables}
use Rattle.schedule_search.specs.Orders.{IsTopological, IsFirstOrder}
use Rattle.resource_table.specs.Befores.{listed}
use Rattle.schedule_search.specs.OrderCycles.{Takes}
use Rattle.schedule_search.specs.Prefixes.{AreFollowers, AreMissing}
use Rattle.schedule_search.specs.Walks.{stands_before, by_length, StandIn, IsOpen}

-- all tests in the order of trying, those that each precedes, and how many precedences each has
pub record AreTries (job : JobValue) (tries : OrderTables) : Type 0 where
  pub tests : tries.tests.items ≡ by_length job
  pub after : AreFollowers job (map listed tries.after.items)
  pub missing : AreMissing job [] tries.missing.items

-- the best order so far and its cycles, how many prefixes were entered, and whether one was refused
pub record Stand : Type 0 where
  pub best : List ℕ
  pub cycles : ℕ
  pub entered : ℕ
  pub refused : Bool

abbrev pub stand_of : Progress → Stand
stand_of p = record { best = p.best.items; cycles = p.cycles; entered = p.entered; refused = p.refused }

-- first orders take as many cycles, or more
abbrev pub AtMostFirst : JobValue → ℕ → Type 0
AtMostFirst job cycles = (first : List ℕ) (c : ℕ) → IsFirstOrder job first → Takes job first c → cycles ≤ c

-- the best order takes its cycles, which are at most those of the first order
pub record IsBest (job : JobValue) (s : Stand) : Type 0 where
  pub topological : IsTopological job s.best
  pub takes : Takes job s.best s.cycles
  pub at_most_first : AtMostFirst job s.cycles

-- no orders that begin so stand before this one
abbrev pub NoneBefore : JobValue → List ℕ → List ℕ → Type 0
NoneBefore job prefix best = (rest : List ℕ) → IsTopological job (prefix ++ rest) → stands_before job (prefix ++ rest) best ≡ false

-- an order takes more cycles, or as many and doesn't stand before
abbrev pub NoBetter : JobValue → Stand → List ℕ → Type 0
NoBetter job s order =
    (c : ℕ) → IsTopological job order → Takes job order c → (s.cycles < c) ⊎ ((s.cycles ≡ c) × (stands_before job order s.best ≡ false))

-- the best is the same, or another of fewer cycles that stands among these
abbrev pub IsKeptOrFewer : List (List ℕ) → Stand → Stand → Type 0
IsKeptOrFewer ws old new = ((new.best ≡ old.best) × (new.cycles ≡ old.cycles)) ⊎ ((new.cycles < old.cycles) × Contains ws new.best)

-- Of a stretch of the walk the first entries are done: none of these is better than the best.
pub record Explored (job : JobValue) (budget : ℕ) (ws : List (List ℕ)) (old new : Stand) : Type 0 where
  pub done : ℕ
  pub some : done ≤ length ws
  pub no_better : All (NoBetter job new) (take done ws)
  pub best : IsKeptOrFewer ws old new
  pub entered : new.entered ≤ old.entered + done
  pub whole : new.refused ≡ false → done ≡ length ws
  pub spent : new.refused ≡ true → new.entered ≡ budget
  -- open entries of the stretch: those that were entered, and one that was refused
  pub entries : List (List ℕ)
  pub in_walk : StandIn entries ws
  pub are_open : All (IsOpen job) entries
  pub counted : new.entered ≤ old.entered + length entries
  pub more : new.refused ≡ true → budget < old.entered + length entries
