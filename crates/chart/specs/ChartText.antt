-- The text of a chart: one line for each start of a plan, with a bar of 48 characters.
use Rattle.std.specs.Prelude.{ℕ, ◌+◌, ◌*◌, Bool, ◌&&◌, Option, None, Some, List, [], ◌++◌, map, find, nat_lt, codes, decimal, if◌then◌else◌}
use Rattle.std.specs.List.{flat_map, range_with_len}
use Rattle.outside.specs.Decimal.{dotted_numbers}
use Rattle.soc_model.specs.declared.TestId.{TestId}
use Rattle.soc_model.specs.Chips.{SocValue}
use Rattle.plan_model.specs.Plans.{PlanValue}
use Rattle.live_tests.specs.declared.placed.PlacedTest.{PlacedTest}
use Rattle.live_tests.specs.Placed.{is_called, placed_tests}

-- a character of a bar stands for a part of 48 of all cycles; the test is active in it
abbrev pub is_marked : (start end cycles i : ℕ) → Bool
is_marked start end cycles i = nat_lt (start * 48) ((i + 1) * cycles) && nat_lt (i * cycles) (end * 48)

-- `#` or `.`
abbrev pub mark : (start end cycles i : ℕ) → ℕ
mark start end cycles i = if is_marked start end cycles i then 35 else 46

unfoldable pub bar : (start end cycles : ℕ) → List ℕ
bar start end cycles = map (mark start end cycles) (range_with_len 0 48)

-- the place of the bus, or `-` for a self test
abbrev pub bus_text : Option ℕ → List ℕ
bus_text None = codes " bus " ++ codes "-"
bus_text (Some bus) = codes " bus " ++ decimal bus

-- the cycle at which the test starts, and the first one after it
abbrev pub times_text : (start end : ℕ) → List ℕ
times_text start end = codes " start " ++ (decimal start ++ (codes " end " ++ decimal end))

-- the bar, between two strokes
abbrev pub bar_text : (start end cycles : ℕ) → List ℕ
bar_text start end cycles = codes " |" ++ (bar start end cycles ++ codes "|\n")

-- the line of a test, in a plan of `cycles` cycles
abbrev pub row_text : (cycles : ℕ) → PlacedTest → List ℕ
row_text cycles t = dotted_numbers t.id.module t.id.test ++ (bus_text t.bus ++ (times_text t.start t.end ++ bar_text t.start t.end cycles))

abbrev pub row_if : (cycles : ℕ) → Option PlacedTest → List ℕ
row_if cycles None = []
row_if cycles (Some t) = row_text cycles t

-- the line of the test that a start names
abbrev pub start_row : (cycles : ℕ) → List PlacedTest → TestId × ℕ → List ℕ
start_row cycles tests s = row_if cycles (find (is_called s.0) tests)

-- the whole text: all cycles, and a line for each start in the order of the plan
abbrev pub chart_text : SocValue → PlanValue → List ℕ
chart_text soc plan =
    codes "cycles " ++ (decimal plan.cycles ++ (codes "\n" ++ flat_map (start_row plan.cycles (placed_tests soc plan)) plan.starts))
