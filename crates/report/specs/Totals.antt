-- The first two lines of a report: the cycles beside their bound, and the wires with how much of them is used.
use Rattle.std.specs.Prelude.{ℕ, ◌-◌, ◌*◌, Option, None, Some, List, ◌++◌, slice_index, codes, decimal}
use Rattle.std.specs.List.{sum, sum_by}
use Rattle.plan_model.specs.Plans.{WhyValue, OfModule, OfPair, OfChain, OfArea, OfPower, OfForced, BoundValue, PlanValue}
use Rattle.live_tests.specs.declared.placed.PlacedTest.{PlacedTest}

-- the keyword of a kind of certificate
abbrev pub kind_text : WhyValue → List ℕ
kind_text (OfModule m) = codes "Module"
kind_text (OfPair m) = codes "Pair"
kind_text (OfChain tests) = codes "Chain"
kind_text OfArea = codes "Area"
kind_text OfPower = codes "Power"
kind_text (OfForced ms) = codes "Forced"

abbrev pub bound_text : BoundValue → List ℕ
bound_text b = codes " bound " ++ (decimal b.cycles ++ (codes " " ++ kind_text b.why))

-- the cycles of the plan, its bound with the kind, and how many cycles are between them
abbrev pub cycles_line : PlanValue → List ℕ
cycles_line plan =
    codes "cycles " ++ (decimal plan.cycles ++ (bound_text plan.bound ++
    (codes " left " ++ (decimal (plan.cycles - plan.bound.cycles) ++ codes "\n"))))

-- the cycles of a test
abbrev pub cycles_of : PlacedTest → ℕ
cycles_of t = t.end - t.start

-- the wires of a bus; of none there are none
abbrev pub wires_over : List ℕ → Option ℕ → ℕ
wires_over ws None = 0
wires_over ws (Some b) = slice_index ws b

-- the wires of a test's bus times its cycles; a self test has no bus
abbrev pub area_of : List ℕ → PlacedTest → ℕ
area_of ws t = wires_over ws t.bus * cycles_of t

-- wires and cycles of all tests over buses of these widths
abbrev pub busy_area : List ℕ → List PlacedTest → ℕ
busy_area ws tests = sum_by (area_of ws) tests

abbrev pub wires_text : (wires used busy all : ℕ) → List ℕ
wires_text wires used busy all =
    codes "wires " ++ (decimal wires ++ (codes " used " ++ (decimal used ++ (codes " busy " ++ (decimal busy ++
    (codes " of " ++ (decimal all ++ codes "\n")))))))

-- all wires and those of buses; in wires times cycles what the tests take, and all that there is
abbrev pub wires_line : (wires cycles : ℕ) → List ℕ → List PlacedTest → List ℕ
wires_line wires cycles ws tests = wires_text wires (sum ws) (busy_area ws tests) (wires * cycles)
