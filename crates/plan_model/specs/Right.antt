-- A plan runs right, for a content.
use Rattle.std.specs.Prelude.{◌≡◌, ◌≢◌, ℕ, ◌+◌, ◌<◌, ◌≤◌, ◌⊎◌, true, false, Some, List, length, reverse, slice_get, IfSome}
use Rattle.std.specs.List.{flat_map, Contains}
use Rattle.std.specs.List.Sorted.{IsPermutation}
use Rattle.soc_model.specs.Chips.{SocValue, IsParent}
use Rattle.plan_model.specs.Cells.{Cell, is_loaded, is_read, out_length}
use Rattle.plan_model.specs.Operations.{Shift, Capture, SelfTest}
use Rattle.plan_model.specs.Plans.{PlanValue, LimitsValue, PlannedTest, planned, IsActive, users, power_at}
use Rattle.plan_model.specs.Runs.{Content, State, operation_at, state_at, bits_at, shown}

-- the test at a place of the list; a place past the end has none
abbrev pub IsAt : List PlannedTest → ℕ → PlannedTest → Type 0
IsAt tests i t = slice_get tests i ≡ Some t

-- each cell of the mode stands exactly once in the chains, and nothing else does
abbrev pub AllStand : PlannedTest → Type 0
AllStand t = IsPermutation t.cells (flat_map (λ cells. cells) t.chains)

-- ---- loads

-- in this state the cells of the test at place `i` that are loaded hold stimulus `k`
abbrev pub HoldsStimulus : Content → State → ℕ → PlannedTest → ℕ → Type 0
HoldsStimulus content state i t k =
    (j r : ℕ) (cells : List Cell) (x : Cell) → slice_get t.chains j ≡ Some cells → slice_get cells r ≡ Some x → is_loaded x ≡ true →
    slice_get (bits_at state i j) r ≡ Some (content.stimulus t.id k x)

-- Capture `k` comes at exactly one cycle, and finds its stimulus.
pub record Loads (content : Content) (tests : List PlannedTest) (i : ℕ) (t : PlannedTest) (k : ℕ) : Type 0 where
  pub cycle : ℕ
  pub captures : operation_at t cycle ≡ Some (Capture k)
  pub once : (c : ℕ) → operation_at t c ≡ Some (Capture k) → c ≡ cycle
  pub holds : HoldsStimulus content (state_at content tests cycle) i t k

-- ---- reads

-- At cycle `c` wire `w` shows the bit of response `k` for cell `x`: the cell stands `shifts` places from the end of its
-- chain, within the out-length, and this number of Shifts lies between the capture and the cycle.
pub record IsReadAt (t : PlannedTest) (k : ℕ) (x : Cell) (c w : ℕ) : Type 0 where
  pub chain : ℕ
  pub cells : List Cell
  pub there : slice_get t.chains chain ≡ Some cells
  pub shifts : ℕ
  pub within : shifts < out_length cells
  pub cell : slice_get (reverse cells) shifts ≡ Some x
  pub capture : ℕ
  pub captures : operation_at t capture ≡ Some (Capture k)
  pub cycle : c ≡ capture + 1 + shifts
  pub wire : w ≡ t.first_wire + chain

-- the Shifts after each Capture show its response
pub record Reads (content : Content) (tests : List PlannedTest) : Type 0 where
  -- from the capture on the test does nothing but Shifts until the bit is shown
  pub all_shifts : (i : ℕ) (t : PlannedTest) (k : ℕ) (x : Cell) (c w : ℕ) → IsAt tests i t → (read : IsReadAt t k x c w) → (d : ℕ) →
      read.capture < d → d ≤ c → operation_at t d ≡ Some Shift
  pub shows : (i : ℕ) (t : PlannedTest) (k : ℕ) (x : Cell) (c w : ℕ) → IsAt tests i t → IsReadAt t k x c w →
      (is_read x ≡ true) × (shown tests (state_at content tests c) c w ≡ content.response t.id k x)
  -- each response bit of each pattern is read
  pub every : (i : ℕ) (t : PlannedTest) (k : ℕ) (x : Cell) → IsAt tests i t → t.tam ≡ true → 1 ≤ k → k ≤ t.patterns → Contains t.cells x →
      is_read x ≡ true → (c : ℕ) × (w : ℕ) × IsReadAt t k x c w
  -- no response bit is read at two cycles or on two wires
  pub once : (i : ℕ) (t : PlannedTest) (k : ℕ) (x : Cell) (c c' w w' : ℕ) → IsAt tests i t → IsReadAt t k x c w → IsReadAt t k x c' w' →
      (c ≡ c') × (w ≡ w')
  -- no two response bits are read at one cycle on one wire
  pub apart : (i i' : ℕ) (t t' : PlannedTest) (k k' : ℕ) (x x' : Cell) (c w : ℕ) → IsAt tests i t → IsAt tests i' t' →
      IsReadAt t k x c w → IsReadAt t' k' x' c w → (i ≡ i') × (k ≡ k') × (x ≡ x')

-- ---- self tests, the end and the limits

-- exactly `patterns` cycles, one after another
pub record TestsItself (t : PlannedTest) : Type 0 where
  pub does : (c : ℕ) → t.start ≤ c → c < t.start + t.patterns → operation_at t c ≡ Some SelfTest
  pub only : (c : ℕ) → operation_at t c ≡ Some SelfTest → (t.start ≤ c) × (c < t.start + t.patterns)

-- no test is active from then on, and no earlier cycle is such
pub record EndsAt (tests : List PlannedTest) (cycles : ℕ) : Type 0 where
  pub over : (i : ℕ) (t : PlannedTest) (c : ℕ) → IsAt tests i t → IsActive t c → c < cycles
  pub least : (n : ℕ) → ((i : ℕ) (t : PlannedTest) (c : ℕ) → IsAt tests i t → IsActive t c → c < n) → cycles ≤ n

-- both tests are active at the cycle
abbrev pub Meet : PlannedTest → PlannedTest → ℕ → Type 0
Meet t u c = IsActive t c × IsActive u c

-- two tests of one module, or of a module (the first) and its direct child
abbrev pub AreKin : SocValue → PlannedTest → PlannedTest → Type 0
AreKin soc t u = (t.place ≡ u.place) ⊎ IsParent soc.modules t.place u.place

-- two tests that are active beside each other though they may not
pub record AreBeside (soc : SocValue) (tests : List PlannedTest) (i j c : ℕ) : Type 0 where
  pub first : PlannedTest
  pub second : PlannedTest
  pub first_at : IsAt tests i first
  pub second_at : IsAt tests j second
  pub differ : i ≢ j
  pub kin : AreKin soc first second
  pub meet : Meet first second c

-- at every cycle the power is within the limit, no two tests are active that may not be, and precedences are kept
pub record KeepsLimits (soc : SocValue) (limits : LimitsValue) (tests : List PlannedTest) : Type 0 where
  pub power : (c : ℕ) → IfSome limits.power (λ most. power_at limits tests c ≤ most)
  pub none_beside : (i j c : ℕ) → AreBeside soc tests i j c → ⊥
  pub before : (i j n : ℕ) (t u : PlannedTest) (c d : ℕ) → IsAt tests i t → IsAt tests j u → slice_get limits.before n ≡ Some (t.id, u.id) →
      IsActive t c → IsActive u d → c < d

-- In the run of the plan every live test loads and reads each pattern, or tests itself; the plan ends in its cycles, no wire has two
-- users, and the limits are kept.
pub record IsRight (soc : SocValue) (limits : LimitsValue) (plan : PlanValue) (content : Content) : Type 0 where
  pub stand : (i : ℕ) (t : PlannedTest) → IsAt (planned soc plan) i t → t.tam ≡ true → AllStand t
  pub loads : (i : ℕ) (t : PlannedTest) (k : ℕ) → IsAt (planned soc plan) i t → t.tam ≡ true → 1 ≤ k → k ≤ t.patterns →
      Loads content (planned soc plan) i t k
  pub reads : Reads content (planned soc plan)
  pub self_tests : (i : ℕ) (t : PlannedTest) → IsAt (planned soc plan) i t → t.tam ≡ false → TestsItself t
  pub ends : EndsAt (planned soc plan) plan.cycles
  pub one_user : (c x : ℕ) → length (users (planned soc plan) c x) ≤ 1
  pub limits_kept : KeepsLimits soc limits (planned soc plan)
