-- The lines of modules: their time, on how narrow a bus they would take no more, and on how wide a one less.
use Rattle.std.specs.Prelude.{ℕ, ◌+◌, ◌-◌, Bool, ◌&&◌, Option, None, Some, is_some, unwrap_or, List, [], ◌∷◌, ◌++◌, find, nat_eq, nat_lt, slice_index, codes, decimal, if◌then◌else◌}
use Rattle.std.specs.List.{range_with_len, sum_by}
use Rattle.soc_model.specs.Chips.{ModuleValue}
use Rattle.soc_model.specs.Modes.{has_tam}
use Rattle.plan_model.specs.Plans.{PlanValue, bus_place, widths}
use Rattle.live_tests.specs.declared.placed.PlacedTest.{PlacedTest}
use Rattle.width_table.specs.Times.{time}
use Rattle.report.specs.Totals.{cycles_of}

-- a test over the wires of the module at a place
abbrev pub is_wired_of : ℕ → PlacedTest → Bool
is_wired_of place t = nat_eq t.place place && is_some t.bus

-- the cycles of all tests over the wires of the module
abbrev pub wired_cycles : List PlacedTest → (place : ℕ) → ℕ
wired_cycles tests place = sum_by (λ (t : PlacedTest). if is_wired_of place t then cycles_of t else 0) tests

-- the first of `n` widths from `from` on at which the time is less than a bound
abbrev pub first_faster : (ℕ → ℕ) → (bound from n : ℕ) → Option ℕ
first_faster f bound from n = find (λ v. nat_lt (f v) bound) (range_with_len from n)

-- the least width up to the bus's at which the module takes no more cycles, or the bus's
abbrev pub narrow : (ℕ → ℕ) → (taken width : ℕ) → ℕ
narrow f taken width = unwrap_or (first_faster f (taken + 1) 1 width) width

-- the least greater width up to all wires at which it takes fewer cycles
abbrev pub wide : (ℕ → ℕ) → (taken width wires : ℕ) → Option ℕ
wide f taken width wires = first_faster f taken (width + 1) (wires - width)

-- that width with the time there
abbrev pub wide_text : (ℕ → ℕ) → Option ℕ → List ℕ
wide_text f None = codes " wide - -"
wide_text f (Some u) = codes " wide " ++ (decimal u ++ (codes " " ++ decimal (f u)))

abbrev pub place_text : (number bus width : ℕ) → List ℕ
place_text number bus width = codes "module " ++ (decimal number ++ (codes " bus " ++ (decimal bus ++ (codes " width " ++ decimal width))))

-- a module of these times at each width, which takes so many cycles on its bus
unfoldable pub module_text : (number bus width wires taken : ℕ) → (ℕ → ℕ) → List ℕ
module_text number bus width wires taken f =
    place_text number bus width ++ (codes " time " ++ (decimal taken ++ (codes " narrow " ++ (decimal (narrow f taken width) ++
    (wide_text f (wide f taken width wires) ++ codes "\n")))))

-- the line of the module at a place, on the bus at another
abbrev pub module_line : (wires : ℕ) → (ws : List ℕ) → List PlacedTest → (bus place : ℕ) → ModuleValue → List ℕ
module_line wires ws tests bus place m = module_text m.number bus (slice_index ws bus) wires (wired_cycles tests place) (time m)

-- where the module has a test over the wires
unfoldable pub line_if_wired : (wires : ℕ) → PlanValue → List PlacedTest → (place : ℕ) → ModuleValue → List ℕ
line_if_wired wires plan tests place m =
    if has_tam m then module_line wires (widths plan) tests (bus_place m.number 0 plan.buses) place m else []

-- the lines of modules from a place on
abbrev pub module_lines : (wires : ℕ) → PlanValue → List PlacedTest → (place : ℕ) → List ModuleValue → List ℕ
module_lines wires plan tests place [] = []
module_lines wires plan tests place (m ∷ ms) = line_if_wired wires plan tests place m ++ module_lines wires plan tests (place + 1) ms
