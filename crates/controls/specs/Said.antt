-- What the controls of a chip's wrappers say of its tests, and a chip that goes by them.
use Rattle.std.specs.Prelude.{◌≡◌, ℕ, zero, suc, ◌+◌, Bool, true, ◌&&◌, ◌||◌, Option, None, Some, List, if◌then◌else◌}
use Rattle.soc_model.specs.declared.TestId.{TestId}
use Rattle.soc_model.specs.Chips.{SocValue}
use Rattle.plan_model.specs.Operations.{Operation, Setup, Shift, Capture, SelfTest}
use Rattle.plan_model.specs.Plans.{PlanValue, PlannedTest, planned, is_active}
use Rattle.plan_model.specs.Right.{IsAt}
use Rattle.plan_model.specs.Runs.{Content, State, bits_at, chain_at, each_chain, first_state, next_bits, operation_at, run_with}
use Rattle.controls.specs.Controls.{capture_of, control_at, run_of, shift_of}

-- what a test does where these are its control and those of its module, and so many of its Captures have been
abbrev pub said : (tam run shift capture : Bool) → (captures : ℕ) → Option Operation
said tam run shift capture captures =
    if run then Some (if tam then (if shift then Shift else (if capture then Capture (suc captures) else Setup)) else SelfTest) else None

-- at how many cycles before one both the control of a test and the Capture of its module are 1
abbrev pub captures_before : List PlannedTest → PlannedTest → (cycle : ℕ) → ℕ
captures_before tests t zero = 0
captures_before tests t (suc c) =
    captures_before tests t c + (if control_at tests c (run_of t.id) && control_at tests c (capture_of t.id.«module») then 1 else 0)

-- what a test does at a cycle, by the controls
unfoldable pub said_at : List PlannedTest → PlannedTest → (cycle : ℕ) → Option Operation
said_at tests t c =
    said t.tam (control_at tests c (run_of t.id)) (control_at tests c (shift_of t.id.«module»))
    (control_at tests c (capture_of t.id.«module»)) (captures_before tests t c)

-- the chip's step by the controls, with the bits that the wires carry
abbrev pub step_by_controls : Content → List PlannedTest → (carried : ℕ → Bool) → (cycle : ℕ) → State → State
step_by_controls content tests carried c state =
    each_chain (λ i t j. next_bits (content.response t.id) (chain_at t j) (said_at tests t c) (carried (t.first_wire + j))
    (bits_at state i j)) 0 tests

-- the state as a cycle begins, of a chip that goes by the controls
abbrev pub run_by_controls : Content → List PlannedTest → (drive : ℕ → ℕ → Bool) → (cycle : ℕ) → State
run_by_controls content tests drive zero = first_state content tests
run_by_controls content tests drive (suc c) = step_by_controls content tests (drive c) c (run_by_controls content tests drive c)

-- a live test over the wires of the module of a number, which is active at a cycle
pub record IsOver (tests : List PlannedTest) (number cycle : ℕ) : Type 0 where
  pub place : ℕ
  pub test : PlannedTest
  pub at : IsAt tests place test
  pub tam : test.tam ≡ true
  pub is : test.id.«module» ≡ number
  pub active : is_active cycle test ≡ true

-- The controls run the plan.
pub record RunThePlan (soc : SocValue) (plan : PlanValue) : Type 0 where
  -- each test does at each cycle what they say
  pub operations : (i c : ℕ) (t : PlannedTest) → IsAt (planned soc plan) i t → operation_at t c ≡ said_at (planned soc plan) t c
  -- the control of a test is 1 where it is active, and nowhere else
  pub active : (i c : ℕ) (t : PlannedTest) → IsAt (planned soc plan) i t → control_at (planned soc plan) c (run_of t.id) ≡ is_active c t
  -- at most one test of a module is on
  pub one : (a b : TestId) (c : ℕ) → a.«module» ≡ b.«module» → control_at (planned soc plan) c (run_of a) ≡ true →
      control_at (planned soc plan) c (run_of b) ≡ true → a ≡ b
  -- a module shifts or captures in an active test over the wires alone
  pub over : (m c : ℕ) → (control_at (planned soc plan) c (shift_of m) || control_at (planned soc plan) c (capture_of m)) ≡ true →
      IsOver (planned soc plan) m c
  -- and all its chains have the bits of the plan's run
  pub runs : (content : Content) (drive : ℕ → ℕ → Bool) (c : ℕ) →
      run_by_controls content (planned soc plan) drive c ≡ run_with content (planned soc plan) drive c
