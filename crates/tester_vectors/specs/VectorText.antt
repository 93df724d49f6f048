-- The text of a plan's vectors, which a tester drives and compares.
use Rattle.std.specs.Prelude.{ℕ, ◌*◌, ◌++◌, List, Option, Some, None, max, nat_lt, map, codes, decimal, if◌then◌else◌}
use Rattle.std.specs.List.{flat_map, range_with_len}
use Rattle.soc_model.specs.Chips.{SocValue}
use Rattle.plan_model.specs.Plans.{PlannedTest, PlanValue, planned}
use Rattle.plan_model.specs.Runs.{Content, carried}
use Rattle.vector_lines.specs.Wires.{wires_of}
use Rattle.tester_vectors.specs.declared.TheConstants.{RUN_MOST}
use Rattle.tester_vectors.specs.Marks.{digit, mark, Marks, response_digits}

-- wires times cycles; a plan without wires counts as one of one wire
abbrev pub wire_cycles : PlanValue → ℕ
wire_cycles plan = plan.cycles * max 1 (wires_of plan)

-- these, where they are more than `most`
abbrev pub more_than : (most : ℕ) → PlanValue → Option ℕ
more_than most plan = if nat_lt most (wire_cycles plan) then Some (wire_cycles plan) else None

-- these, where they are too many for a run with made contents
abbrev pub too_many : PlanValue → Option ℕ
too_many plan = more_than RUN_MOST plan

-- the first line: wires and cycles
abbrev pub head_line : (wires cycles : ℕ) → List ℕ
head_line wires cycles = codes "vectors " ++ (decimal wires ++ (codes " " ++ (decimal cycles ++ codes "\n")))

-- the bits that the wires carry at a cycle
abbrev pub driven_text : Content → List PlannedTest → (wires cycle : ℕ) → List ℕ
driven_text content tests wires c = map (λ w. digit (carried content tests c w)) (range_with_len 0 wires)

-- the marks of the bits that are read at a cycle, wire by wire
abbrev pub compared_text : Marks → List PlannedTest → (wires cycle : ℕ) → List ℕ
compared_text marks tests wires c = map (mark marks tests c) (range_with_len 0 wires)

-- the line of a cycle
unfoldable pub cycle_line : Content → Marks → List PlannedTest → (wires cycle : ℕ) → List ℕ
cycle_line content marks tests wires c =
    driven_text content tests wires c ++ (codes " " ++ (compared_text marks tests wires c ++ codes "\n"))

-- the whole text, for a content whose response bits have these marks
abbrev pub marked_text : SocValue → PlanValue → Content → Marks → List ℕ
marked_text soc plan content marks =
    head_line (wires_of plan) plan.cycles
    ++ flat_map (cycle_line content marks (planned soc plan) (wires_of plan)) (range_with_len 0 plan.cycles)

-- the whole text, for a content
abbrev pub vector_text : SocValue → PlanValue → Content → List ℕ
vector_text soc plan content = marked_text soc plan content (response_digits content)
