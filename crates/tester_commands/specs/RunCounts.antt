-- What the run of a whole plan counts, and the line that tells it.
use Rattle.std.specs.Prelude.{ℕ, ◌++◌, List, codes, decimal}
use Rattle.std.specs.List.{sum_by, filter}
use Rattle.soc_model.specs.Chips.{SocValue, LiveTest, live_tests}
use Rattle.plan_model.specs.Bounds.{sum_below}
use Rattle.plan_model.specs.Plans.{PlanValue, PlannedTest, planned}
use Rattle.plan_model.specs.Runs.{Content, state_at}
use Rattle.vector_lines.specs.Made.{made_content}
use Rattle.bit_machine.specs.Chips.{captures_at, right_loads_at}

-- the captures of all tests in the first `cycles` cycles
abbrev pub captures_in : List PlannedTest → (cycles : ℕ) → ℕ
captures_in tests cycles = sum_below (captures_at tests) cycles

-- those of them that find their whole stimulus in the cells, in the plan's own run
abbrev pub right_loads_in : Content → List PlannedTest → (cycles : ℕ) → ℕ
right_loads_in content tests cycles = sum_below (λ c. right_loads_at content tests c (state_at content tests c)) cycles

-- the patterns of all live tests over the wires
abbrev pub wired_patterns : SocValue → ℕ
wired_patterns chip = sum_by (λ (l : LiveTest). l.test.patterns) (filter (λ (l : LiveTest). l.test.tam) (live_tests chip))

-- `cycles C captures N loaded M`
abbrev pub counts_line : (cycles captures loaded : ℕ) → List ℕ
counts_line cycles captures loaded =
    codes "cycles " ++ decimal cycles ++ codes " captures " ++ decimal captures ++ codes " loaded " ++ decimal loaded ++ codes "\n"

-- the line of the plan's own run with the made contents of a seed
abbrev pub simulated_text : SocValue → PlanValue → (seed : ℕ) → List ℕ
simulated_text chip value seed = counts_line value.cycles (captures_in (planned chip value) value.cycles)
    (right_loads_in (made_content chip seed) (planned chip value) value.cycles)
