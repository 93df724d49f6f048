-- The neighbours of an architecture, in the order in which they are looked at (after TR-ARCHITECT, Goel and Marinissen
-- 2002).
use Rattle.std.specs.Prelude.{ℕ, ◌-◌, ◌==◌, nat_le, not, List, [], ◌∷◌, ◌++◌, length, map, max, min, filter, remove, slice_index, slice_set, if◌then◌else◌}
use Rattle.std.specs.List.{range_with_len, flat_map}
use Rattle.width_table.specs.Tables.{TableValue}
use Rattle.bus_model.specs.Buses.{BusValue, bus_at, bottleneck_of, quickest_of, spread_of}
use Rattle.bus_model.specs.Start.{with_place}

-- the places below n, but for one
abbrev pub others : ℕ → ℕ → List ℕ
others n b = filter (λ c. not (c == b)) (range_with_len 0 n)

-- a bus takes over another: its modules stand after its own, on the greater width
abbrev pub joined : BusValue → BusValue → BusValue
joined into from = record { width = max into.width from.width; places = into.places ++ from.places }

-- bus b is merged into bus c, and its wires are still to be given out
unfoldable pub joined_at : List BusValue → ℕ → ℕ → List BusValue
joined_at arch b c = remove (slice_set arch c (joined (bus_at arch c) (bus_at arch b))) b

-- bus b is merged into bus c, and the smaller width is spread
unfoldable pub merged : TableValue → List BusValue → ℕ → ℕ → List BusValue
merged table arch b c = spread_of table (min (bus_at arch b).width (bus_at arch c).width) (joined_at arch b c)

-- bus b merged into each other bus
abbrev pub merges : TableValue → ℕ → List BusValue → List (List BusValue)
merges table b arch = map (merged table arch b) (others (length arch) b)

-- the first bus of least time is merged into each other bus
abbrev pub bottom_up_of : TableValue → List BusValue → List (List BusValue)
bottom_up_of table arch = merges table (quickest_of table arch) arch

-- the bottleneck is merged into each other bus
abbrev pub top_down_of : TableValue → List BusValue → List (List BusValue)
top_down_of table arch = merges table (bottleneck_of table arch) arch

-- the bus without its k-th module, with u wires fewer
abbrev pub reduced : BusValue → ℕ → ℕ → BusValue
reduced bus k u = record { width = bus.width - u; places = remove bus.places k }

-- the k-th module of bus b moves to the end of bus c
unfoldable pub moved : List BusValue → ℕ → ℕ → ℕ → List BusValue
moved arch b k c =
    slice_set (slice_set arch b (reduced (bus_at arch b) k 0)) c (with_place (bus_at arch c) (slice_index (bus_at arch b).places k))

-- the k-th module of bus b moves to a new last bus, which takes u of its wires
unfoldable pub split_off : List BusValue → ℕ → ℕ → ℕ → List BusValue
split_off arch b k u =
    slice_set arch b (reduced (bus_at arch b) k u) ++ record { width = u; places = slice_index (bus_at arch b).places k ∷ [] } ∷ []

-- the k-th module of bus b moves to each other bus, and then to a new bus of each smaller width
abbrev pub moves : List BusValue → ℕ → ℕ → List (List BusValue)
moves arch b k = map (moved arch b k) (others (length arch) b) ++ map (split_off arch b k) (range_with_len 1 ((bus_at arch b).width - 1))

-- each module of bus b in turn moves
abbrev pub all_moves : List BusValue → ℕ → List (List BusValue)
all_moves arch b = flat_map (moves arch b) (range_with_len 0 (length (bus_at arch b).places))

-- each module of the bottleneck in turn moves, where it has at least two
abbrev pub reshuffle_of : TableValue → List BusValue → List (List BusValue)
reshuffle_of table arch =
    if nat_le 2 (length (bus_at arch (bottleneck_of table arch)).places)
    then all_moves arch (bottleneck_of table arch)
    else []
