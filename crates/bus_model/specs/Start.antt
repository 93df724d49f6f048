-- The start solution.
use Rattle.std.specs.Prelude.{◌≡◌, ℕ, ◌-◌, ◌<◌, ◌⊎◌, List, [], ◌∷◌, ◌++◌, length, map, fold, take, drop, slice_set, nat_le, AllPairs, if◌then◌else◌}
use Rattle.width_table.specs.Tables.{TableValue, time_of}
use Rattle.bus_model.specs.Buses.{BusValue, bus_at, quickest_of, spread_of}
use Rattle.bus_model.specs.Sound.{times_listed, due}

-- p stands before q: it takes longer on one wire, or as long and is the earlier place
abbrev pub StandsBefore : TableValue → ℕ → ℕ → Type 0
StandsBefore table p q = (time_of table q 1 < time_of table p 1) ⊎ ((time_of table p 1 ≡ time_of table q 1) × (p < q))

-- the places with a test over wires, each once, in that order
pub record IsStartOrder (table : TableValue) (order : List ℕ) : Type 0 where
  pub once : (p : ℕ) → times_listed p order ≡ due table p
  pub longest_first : AllPairs (StandsBefore table) order

-- a bus of one wire for one module
abbrev pub one_wire : ℕ → BusValue
one_wire p = record { width = 1; places = p ∷ [] }

-- the bus with one module more, at the end
abbrev pub with_place : BusValue → ℕ → BusValue
with_place bus p = record bus { places = bus.places ++ p ∷ [] }

-- a further module goes to the first bus of least time
abbrev pub placed_on_quickest : TableValue → List BusValue → ℕ → List BusValue
placed_on_quickest table arch p = slice_set arch (quickest_of table arch) (with_place (bus_at arch (quickest_of table arch)) p)

-- the start solution for modules in that order
unfoldable pub start_of : TableValue → List ℕ → List BusValue
start_of table order =
    if nat_le (length order) table.wires
    then spread_of table (table.wires - length order) (map one_wire order)
    else fold (placed_on_quickest table) (map one_wire (take table.wires order)) (drop table.wires order)

-- it is the start solution of the table
abbrev pub IsStart : TableValue → List BusValue → Type 0
IsStart table arch = (order : List ℕ) × IsStartOrder table order × (arch ≡ start_of table order)
