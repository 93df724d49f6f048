-- The run of a whole plan, cycle by cycle, on the chains of all tests and the wires that they share.
use Rattle.std.specs.Prelude.{ℕ, zero, suc, ◌+◌, ◌-◌, Bool, false, Option, Some, None, List, [], ◌∷◌, map, length, take, drop, get_or, slice_get, nat_lt, nat_le, if◌then◌else◌}
use Rattle.std.specs.List.{range_with_len}
use Rattle.soc_model.specs.declared.TestId.{TestId}
use Rattle.plan_model.specs.Cells.{Cell, In, is_read, in_length}
use Rattle.plan_model.specs.Operations.{Operation, Setup, Shift, Capture, SelfTest, ahead}
use Rattle.plan_model.specs.Plans.{PlannedTest, uses}

-- What the tests load and answer: a bit for each cell as the test starts, and for each pattern and cell.
pub record Content : Type 0 where
  pub initial : TestId → Cell → Bool
  pub stimulus : TestId → ℕ → Cell → Bool
  pub response : TestId → ℕ → Cell → Bool

-- The bit that a chain wants at the first of these operations. In the Shifts before Capture `k`, the one with `r`
-- Shifts after it wants the stimulus of the cell at place `r`; all else wants 0.
abbrev pub wanted : (stimulus : ℕ → Cell → Bool) → List Cell → List Operation → Bool
wanted stimulus cells [] = false
wanted stimulus cells (Shift ∷ ops) = bit_for (ahead ops) where
  bit_for : Option (ℕ × ℕ) → Bool
  bit_for None = false
  bit_for (Some a) = if nat_lt a.0 (in_length cells) then stimulus a.1 (get_or cells a.0 (In 0)) else false
wanted stimulus cells (Capture k ∷ ops) = false
wanted stimulus cells (Setup ∷ ops) = false
wanted stimulus cells (SelfTest ∷ ops) = false

-- a capture: the cells that are read take the response, the others stay
abbrev pub captured : (response : Cell → Bool) → List Cell → List Bool → List Bool
captured response [] bits = bits
captured response (x ∷ cells) [] = []
captured response (x ∷ cells) (b ∷ bits) = (if is_read x then response x else b) ∷ captured response cells bits

-- One chain over one cycle, with the bit that its wire carries. A chain at rest stays as it is.
abbrev pub next_bits : (response : ℕ → Cell → Bool) → List Cell → Option Operation → Bool → List Bool → List Bool
next_bits response cells None carried bits = bits
next_bits response cells (Some Shift) carried bits = take (length bits) (carried ∷ bits)
next_bits response cells (Some (Capture k)) carried bits = captured (response k) cells bits
next_bits response cells (Some Setup) carried bits = bits
next_bits response cells (Some SelfTest) carried bits = bits

-- the last bit of a chain, 0 where it has no cell
abbrev pub last_bit : List Bool → Bool
last_bit bits = get_or bits (length bits - 1) false

-- the bits of each chain of each test, from wire in to wire out
abbrev pub State : Type 0
State = List (List (List Bool))

-- the bits of chain `j` of the test at place `i`
abbrev pub bits_at : State → ℕ → ℕ → List Bool
bits_at state i j = get_or (get_or state i []) j []

-- the cells of chain `j` of a test, none past the last chain
abbrev pub chain_at : PlannedTest → ℕ → List Cell
chain_at t j = get_or t.chains j []

-- the operation of a test at a cycle
abbrev pub operation_at : PlannedTest → ℕ → Option Operation
operation_at t c = if nat_le t.start c then slice_get t.operations (c - t.start) else None

-- for each test, for each of its chains: `f` of the place of the test, the test, and the number of the chain
abbrev pub each_chain : {X : Type 0} → (ℕ → PlannedTest → ℕ → X) → ℕ → List PlannedTest → List (List X)
each_chain f i [] = []
each_chain f i (t ∷ ts) = map (f i t) (range_with_len 0 (length t.chains)) ∷ each_chain f (i + 1) ts

-- the bits before cycle 0
unfoldable pub first_state : Content → List PlannedTest → State
first_state content tests = each_chain (λ i t j. map (content.initial t.id) (chain_at t j)) 0 tests

-- the chip's step, with the bits that the wires carry
unfoldable pub step : Content → List PlannedTest → (carried : ℕ → Bool) → ℕ → State → State
step content tests carried c state =
    each_chain (λ i t j. next_bits (content.response t.id) (chain_at t j) (operation_at t c) (carried (t.first_wire + j))
    (bits_at state i j)) 0 tests

-- `f` of the place of the wire's first user, that test, and the number of its chain on the wire; 0 where nobody uses it
abbrev pub at_first_user : (ℕ → PlannedTest → ℕ → Bool) → ℕ → ℕ → ℕ → List PlannedTest → Bool
at_first_user f c x i [] = false
at_first_user f c x i (t ∷ ts) = if uses c x t then f i t (x - t.first_wire) else at_first_user f c x (i + 1) ts

-- the bit that a wire carries: what its first user's chain on it wants
unfoldable pub carried : Content → List PlannedTest → ℕ → ℕ → Bool
carried content tests c x =
    at_first_user (λ i t j. wanted (content.stimulus t.id) (chain_at t j) (drop (c - t.start) t.operations)) c x 0 tests

-- the bit that a wire shows: the last one of its first user's chain
unfoldable pub shown : List PlannedTest → State → ℕ → ℕ → Bool
shown tests state c x = at_first_user (λ i t j. last_bit (bits_at state i j)) c x 0 tests

-- the state as a cycle begins, where `drive c x` is the bit that wire `x` carries at cycle `c`
unfoldable pub run_with : Content → List PlannedTest → (drive : ℕ → ℕ → Bool) → ℕ → State
run_with content tests drive zero = first_state content tests
run_with content tests drive (suc c) = step content tests (drive c) c (run_with content tests drive c)

-- the plan's own run: each wire carries what its first user's chain wants
abbrev pub state_at : Content → List PlannedTest → ℕ → State
state_at content tests c = run_with content tests (carried content tests) c
