-- A whole chip under test, cycle by cycle: the made contents, the bits on the wires, and what is counted.
use Rattle.std.specs.Prelude.{◌≡◌, ℕ, Bool, true, false, not, ◌||◌, Option, Some, None, List, map, length}
use Rattle.std.specs.List.{count_by, zip, list_all, range_with_len}
use Rattle.soc_model.specs.Chips.{SocValue}
use Rattle.plan_model.specs.Cells.{Cell, is_loaded}
use Rattle.plan_model.specs.Operations.{Operation, Setup, Shift, Capture, SelfTest}
use Rattle.plan_model.specs.Plans.{PlanValue, PlannedTest, planned}
use Rattle.plan_model.specs.Runs.{Content, State, operation_at, first_state, carried, shown}
use Rattle.vector_lines.specs.Made.{made_content}
use Rattle.vector_lines.specs.Wires.{wires_of}

-- ---- a chip under test

-- The chip and its plan, the seed of the contents, the cycles done, the bits of the chains of each live test, and how
-- many captures were made and found their whole stimulus.
pub record ChipValue : Type 0 where
  pub soc : SocValue
  pub plan : PlanValue
  pub seed : ℕ
  pub cycle : ℕ
  pub state : State
  pub captures : ℕ
  pub right_loads : ℕ

-- the live tests as they are planned, and what they load and answer
abbrev pub chip_tests : ChipValue → List PlannedTest
chip_tests chip = planned chip.soc chip.plan

abbrev pub chip_content : ChipValue → Content
chip_content chip = made_content chip.soc chip.seed

-- a chip before any cycle
abbrev pub at_first : SocValue → PlanValue → (seed : ℕ) → ChipValue
at_first soc plan seed = record {
  soc = soc;
  plan = plan;
  seed = seed;
  cycle = 0;
  state = first_state (made_content soc seed) (planned soc plan);
  captures = 0;
  right_loads = 0;
}

-- ---- the wires

-- `f` of each wire
abbrev pub each_wire : PlanValue → (ℕ → Bool) → List Bool
each_wire plan f = map f (range_with_len 0 (wires_of plan))

-- what each wire carries at this cycle, and what each one shows as the cycle begins
abbrev pub carried_bits : ChipValue → List Bool
carried_bits chip = each_wire chip.plan (carried (chip_content chip) (chip_tests chip) chip.cycle)

abbrev pub shown_bits : ChipValue → List Bool
shown_bits chip = each_wire chip.plan (shown (chip_tests chip) chip.state chip.cycle)

-- ---- what is counted

abbrev pub is_capture : Option Operation → Bool
is_capture None = false
is_capture (Some Setup) = false
is_capture (Some Shift) = false
is_capture (Some (Capture k)) = true
is_capture (Some SelfTest) = false

-- the captures at a cycle
abbrev pub captures_at : List PlannedTest → ℕ → ℕ
captures_at tests c = count_by (λ t. is_capture (operation_at t c)) tests

-- both are 0, or both are 1
abbrev pub same_bit : Bool → Bool → Bool
same_bit true b = b
same_bit false b = not b

-- each cell of a chain that is loaded has its bit
abbrev pub chain_holds : (stimulus : Cell → Bool) → List Cell → List Bool → Bool
chain_holds stimulus cells bits = list_all (λ (p : Cell × Bool). not (is_loaded p.0) || same_bit p.1 (stimulus p.0)) (zip cells bits)

-- so does each chain
abbrev pub holds : (stimulus : Cell → Bool) → List (List Cell) → List (List Bool) → Bool
holds stimulus chains bits = list_all (λ (p : List Cell × List Bool). chain_holds stimulus p.0 p.1) (zip chains bits)

-- the test captures a pattern whose stimulus stands in the cells
abbrev pub loads_right : (stimulus : ℕ → Cell → Bool) → Option Operation → List (List Cell) → List (List Bool) → Bool
loads_right stimulus None chains bits = false
loads_right stimulus (Some Setup) chains bits = false
loads_right stimulus (Some Shift) chains bits = false
loads_right stimulus (Some (Capture k)) chains bits = holds (stimulus k) chains bits
loads_right stimulus (Some SelfTest) chains bits = false

-- the captures at a cycle that find their whole stimulus as the cycle begins
abbrev pub right_loads_at : Content → List PlannedTest → ℕ → State → ℕ
right_loads_at content tests c state =
    count_by (λ (p : PlannedTest × List (List Bool)). loads_right (content.stimulus p.0.id) (operation_at p.0 c) p.0.chains p.1)
    (zip tests state)

-- there is a bit for each cell of each chain of each test
abbrev pub HasAllBits : List PlannedTest → State → Type 0
HasAllBits tests state = map (map (λ (bits : List Bool). length bits)) state
    ≡ map (λ (t : PlannedTest). map (λ (cells : List Cell). length cells) t.chains) tests
