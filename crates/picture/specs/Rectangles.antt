-- The rectangles of tests, in cycles and wires, or in cycles and lanes.
use Rattle.std.specs.Prelude.{ℕ, ◌+◌, Bool, ◌&&◌, Option, None, Some, List, [], ◌∷◌, ◌++◌, length, position, set, slice_get, unwrap_or, nat_eq, nat_le, nat_lt, is_none, is_some, if◌then◌else◌}
use Rattle.std.specs.List.{filter, flat_map, range_with_len}
use Rattle.plan_model.specs.Plans.{PlanValue, widths}
use Rattle.live_tests.specs.declared.placed.PlacedTest.{PlacedTest}
use Rattle.picture.specs.declared.panels.Drawn.{Drawn}

-- a test over the rows from `first` to before `last`
abbrev pub drawn_over : PlacedTest → (first last : ℕ) → Drawn
drawn_over t first last = record { rectangle = record { start = t.start; end = t.end; first = first; last = last }; test = t }

-- ---- over the wires

-- the wires of buses of these widths from a wire on: for each bus its first one, and the first one after it
abbrev pub wires_from : (first : ℕ) → List ℕ → List (ℕ × ℕ)
wires_from first [] = []
wires_from first (w ∷ ws) = (first, first + w) ∷ wires_from (first + w) ws

abbrev pub bus_wires : PlanValue → List (ℕ × ℕ)
bus_wires plan = wires_from 0 (widths plan)

-- each number with the next one
abbrev pub between : List ℕ → List (ℕ × ℕ)
between [] = []
between (a ∷ []) = []
between (a ∷ b ∷ rest) = (a, b) ∷ between (b ∷ rest)

-- a test over wires that are there
abbrev pub over_wires : PlacedTest → Option (ℕ × ℕ) → List Drawn
over_wires t None = []
over_wires t (Some wires) = drawn_over t wires.0 wires.1 ∷ []

-- over the wires of its bus; a self test has none
abbrev pub over_bus : List (ℕ × ℕ) → PlacedTest → Option ℕ → List Drawn
over_bus buses t None = []
over_bus buses t (Some bus) = over_wires t (slice_get buses bus)

-- the tests over the wires, in the order of the chip
abbrev pub wired : List (ℕ × ℕ) → List PlacedTest → List Drawn
wired buses tests = flat_map (λ t. over_bus buses t t.bus) tests

-- the test that a rectangle is of
abbrev pub drawn_test : Drawn → PlacedTest
drawn_test d = d.test

-- the rectangle has the cycle in the row
abbrev pub covers : (cycle row : ℕ) → Drawn → Bool
covers cycle row d = (nat_le d.rectangle.start cycle && nat_lt cycle d.rectangle.end)
    && (nat_le d.rectangle.first row && nat_lt row d.rectangle.last)

-- a test over the wires
abbrev pub is_wired : PlacedTest → Bool
is_wired t = is_some t.bus

-- ---- in lanes

abbrev pub is_self : PlacedTest → Bool
is_self t = is_none t.bus

abbrev pub starts_at : ℕ → PlacedTest → Bool
starts_at c t = nat_eq t.start c

-- by their starts, which are at most `last`: cycle by cycle those that start there, in the order in which they stood
abbrev pub by_start : (last : ℕ) → List PlacedTest → List PlacedTest
by_start last tests = flat_map (λ c. filter (starts_at c) tests) (range_with_len 0 (last + 1))

-- the first lane that is free at a cycle, by the ends of the last tests of all lanes; else the one after them
abbrev pub free_lane : (ends : List ℕ) → (start : ℕ) → ℕ
free_lane ends start = unwrap_or (position (λ end. nat_le end start) ends) (length ends)

-- a test more in a lane
abbrev pub with_end : (ends : List ℕ) → (lane end : ℕ) → List ℕ
with_end ends lane end = if nat_lt lane (length ends) then set ends lane end else ends ++ end ∷ []

-- the ends of all lanes behind further tests
abbrev pub lane_ends : (ends : List ℕ) → List PlacedTest → List ℕ
lane_ends ends [] = ends
lane_ends ends (t ∷ ts) = lane_ends (with_end ends (free_lane ends t.start) t.end) ts

-- each test in the first lane that is free at its start
abbrev pub laned : (ends : List ℕ) → List PlacedTest → List Drawn
laned ends [] = []
laned ends (t ∷ ts) =
    drawn_over t (free_lane ends t.start) (free_lane ends t.start + 1) ∷ laned (with_end ends (free_lane ends t.start) t.end) ts
