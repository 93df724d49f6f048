-- The lines of buses: how many tests each has, and its busy and idle cycles.
use Rattle.std.specs.Prelude.{ℕ, ◌+◌, Bool, false, ◌&&◌, Option, None, Some, List, [], ◌∷◌, ◌++◌, nat_eq, codes, decimal, if◌then◌else◌}
use Rattle.std.specs.List.{list_any, sum_by}
use Rattle.plan_model.specs.Bounds.{sum_below}
use Rattle.live_tests.specs.declared.placed.PlacedTest.{PlacedTest}
use Rattle.live_tests.specs.Loads.{is_active}

-- a bus is this one
abbrev pub is_bus : ℕ → Option ℕ → Bool
is_bus b None = false
is_bus b (Some bus) = nat_eq bus b

-- a test over the wires of the bus at a place
abbrev pub is_over : ℕ → PlacedTest → Bool
is_over b t = is_bus b t.bus

-- a test of the bus is active at the cycle
abbrev pub is_busy : List PlacedTest → (bus cycle : ℕ) → Bool
is_busy tests b c = list_any (λ (t : PlacedTest). is_over b t && is_active c t) tests

-- of the first cycles those at which the bus is busy, and those at which it is idle
abbrev pub busy_cycles : List PlacedTest → (bus cycles : ℕ) → ℕ
busy_cycles tests b cycles = sum_below (λ c. if is_busy tests b c then 1 else 0) cycles

abbrev pub idle_cycles : List PlacedTest → (bus cycles : ℕ) → ℕ
idle_cycles tests b cycles = sum_below (λ c. if is_busy tests b c then 0 else 1) cycles

-- how many tests are over its wires
abbrev pub tests_over : List PlacedTest → (bus : ℕ) → ℕ
tests_over tests b = sum_by (λ (t : PlacedTest). if is_over b t then 1 else 0) tests

abbrev pub use_text : (tests busy idle : ℕ) → List ℕ
use_text tests busy idle =
    codes " tests " ++ (decimal tests ++ (codes " busy " ++ (decimal busy ++ (codes " idle " ++ (decimal idle ++ codes "\n")))))

abbrev pub place_text : (place width : ℕ) → List ℕ
place_text place width = codes "bus " ++ (decimal place ++ (codes " width " ++ decimal width))

unfoldable pub bus_line : (cycles : ℕ) → List PlacedTest → (place width : ℕ) → List ℕ
bus_line cycles tests b width =
    place_text b width ++ use_text (tests_over tests b) (busy_cycles tests b cycles) (idle_cycles tests b cycles)

-- a line for each bus; these are the widths of those from a place on
abbrev pub bus_lines : (cycles : ℕ) → List PlacedTest → (place : ℕ) → (ws : List ℕ) → List ℕ
bus_lines cycles tests b [] = []
bus_lines cycles tests b (w ∷ ws) = bus_line cycles tests b w ++ bus_lines cycles tests (b + 1) ws
