-- How the machine of a whole chip keeps all live tests, and which test each wire belongs to.
use Rattle.std.specs.Prelude.{◌≡◌, ◌≢◌, ℕ, ◌+◌, ◌<◌, ◌≤◌, ◌⊎◌, Bool, true, false, Option, Some, None, List, [], map, length, get_or, slice_get}
use Rattle.plan_model.specs.Plans.{PlannedTest, end_of, uses}
use Rattle.plan_model.specs.Runs.{Content, State, operation_at, bits_at, chain_at, next_bits}
use Rattle.plan_model.specs.Right.{IsAt}
use Rattle.vector_lines.specs.declared.lane.Lane.{Lane}
use Rattle.bit_machine.specs.declared.stepped.SteppedLane.{SteppedLane}
use Rattle.bit_machine.specs.declared.machine.Machine.{Machine}
use Rattle.bit_machine.specs.Chips.{is_capture, loads_right}
use Rattle.vector_lines.specs.Wires.{IsCompared, AreOnWires}
use Rattle.bit_machine.specs.Lanes.{lane_bits, lane_on, ArePages, IsNow, IsLane, IsSameTest, IsSteppable}

-- the bits of the chains of each test
abbrev pub lanes_state : List SteppedLane → State
lanes_state lanes = map lane_bits lanes

-- the stepped lanes of the tests, in their order
pub record AreStepped (content : Content) (tests : List PlannedTest) (lanes : List SteppedLane) : Type 0 where
  pub long : length lanes ≡ length tests
  pub lane : (i : ℕ) (t : PlannedTest) (s : SteppedLane) → IsAt tests i t → slice_get lanes i ≡ Some s → IsLane content t s.lane
  pub steppable : (i : ℕ) (s : SteppedLane) → slice_get lanes i ≡ Some s → IsSteppable s

-- for each wire the place of the test that uses it
pub record AreUsers (tests : List PlannedTest) (c : ℕ) (users : List (Option ℕ)) : Type 0 where
  pub user : (w i : ℕ) → slice_get users w ≡ Some (Some i) → (t : PlannedTest) × IsAt tests i t × (uses c w t ≡ true)
  pub every : (w i : ℕ) (t : PlannedTest) → w < length users → IsAt tests i t → uses c w t ≡ true → slice_get users w ≡ Some (Some i)

-- before the change no test begins or ends after this cycle
abbrev pub IsUnchanged : ℕ → ℕ → ℕ → Type 0
IsUnchanged c change n = (n ≤ c) ⊎ (change ≤ n)

abbrev pub AreUnchanged : List PlannedTest → ℕ → ℕ → Type 0
AreUnchanged tests c change = (i : ℕ) (t : PlannedTest) → IsAt tests i t → IsUnchanged c change t.start × IsUnchanged c change (end_of t)

-- each lane that is on knows what its test does
abbrev pub AreNow : List SteppedLane → ℕ → Type 0
AreNow lanes c = (i : ℕ) (s : SteppedLane) → slice_get lanes i ≡ Some s → lane_on s.lane c ≡ true → IsNow s c

-- so does each whose bus begins below a wire
abbrev pub AreNowBelow : List SteppedLane → (c w : ℕ) → Type 0
AreNowBelow lanes c w = (i : ℕ) (s : SteppedLane) → slice_get lanes i ≡ Some s → lane_on s.lane c ≡ true → s.lane.first_wire < w → IsNow s c

-- the machine of the tests of a good plan
pub record IsMachine (content : Content) (tests : List PlannedTest) (m : Machine) : Type 0 where
  pub lanes : AreStepped content tests m.lanes.items
  pub wires : AreOnWires tests (length m.users.items)
  pub users : AreUsers tests m.cycle m.users.items
  pub change : AreUnchanged tests m.cycle m.change
  pub now : AreNow m.lanes.items m.cycle

-- of some tests
pub record AreSomeStepped (lanes : List SteppedLane) (wires : ℕ) : Type 0 where
  pub content : Content
  pub tests : List PlannedTest
  pub are : AreStepped content tests lanes
  pub on : AreOnWires tests wires

pub record AreSomeUsers (lanes : List SteppedLane) (c : ℕ) (users : List (Option ℕ)) : Type 0 where
  pub content : Content
  pub tests : List PlannedTest
  pub are : AreStepped content tests lanes
  pub on : AreOnWires tests (length users)
  pub by : AreUsers tests c users

pub record IsSomeMachine (m : Machine) : Type 0 where
  pub content : Content
  pub tests : List PlannedTest
  pub is : IsMachine content tests m

-- the test that uses a wire at this cycle, with its lane
pub record IsUser (content : Content) (tests : List PlannedTest) (m : Machine) (w i : ℕ) (s : SteppedLane) : Type 0 where
  pub t : PlannedTest
  pub at : IsAt tests i t
  pub lane_at : slice_get m.lanes.items i ≡ Some s
  pub tam : t.tam ≡ true
  pub used : uses m.cycle w t ≡ true
  pub lane : IsLane content t s.lane
  pub steppable : IsSteppable s
  pub first : s.lane.first_wire ≡ t.first_wire
  pub begun : t.start ≤ m.cycle
  pub now : IsNow s m.cycle

-- a lane that has a wire now
pub record HasWire (m : Machine) (w : ℕ) (s : SteppedLane) : Type 0 where
  pub steppable : IsSteppable s
  pub low : s.lane.first_wire ≤ w
  pub user : (content : Content) (tests : List PlannedTest) → IsMachine content tests m → (i : ℕ) × IsUser content tests m w i s

-- no test uses the wire at this cycle
abbrev pub HasNoUser : Machine → ℕ → Type 0
HasNoUser m w = (content : Content) (tests : List PlannedTest) → IsMachine content tests m → (i : ℕ) (t : PlannedTest) → IsAt tests i t →
    uses m.cycle w t ≡ true → ⊥

-- what one wire's chains do in a cycle: the chain on the wire takes a step, the others stay
pub record IsWireStep (content : Content) (tests : List PlannedTest) (c w : ℕ) (drive : Bool) (old new : State) : Type 0 where
  pub here : (i j : ℕ) (t : PlannedTest) → IsAt tests i t → j < length t.chains → t.first_wire + j ≡ w →
      bits_at new i j ≡ next_bits (content.response t.id) (chain_at t j) (operation_at t c) drive (bits_at old i j)
  pub others : (i j : ℕ) (t : PlannedTest) → IsAt tests i t → j < length t.chains → t.first_wire + j ≢ w → bits_at new i j ≡ bits_at old i j

-- what the chains on the wires below a number do in a cycle
pub record AreWireSteps (content : Content) (tests : List PlannedTest) (c w : ℕ) (drive : ℕ → Bool) (old new : State) : Type 0 where
  pub done : (i j : ℕ) (t : PlannedTest) → IsAt tests i t → j < length t.chains → t.first_wire + j < w →
      bits_at new i j ≡ next_bits (content.response t.id) (chain_at t j) (operation_at t c) (drive (t.first_wire + j)) (bits_at old i j)
  pub rest : (i j : ℕ) (t : PlannedTest) → IsAt tests i t → j < length t.chains → w ≤ t.first_wire + j → bits_at new i j ≡ bits_at old i j

-- the test whose bus begins with the wire captures at the cycle, and whether it finds its stimulus; none where no such test does
pub record IsWireCapture (content : Content) (tests : List PlannedTest) (c w : ℕ) (state : State) (found : Option Bool) : Type 0 where
  pub some : (b : Bool) → found ≡ Some b → (i : ℕ) × (t : PlannedTest) × IsAt tests i t × (t.first_wire ≡ w)
      × (is_capture (operation_at t c) ≡ true)
      × (loads_right (content.stimulus t.id) (operation_at t c) t.chains (get_or state i []) ≡ b)
  pub none : found ≡ None → (i : ℕ) (t : PlannedTest) → IsAt tests i t → t.first_wire ≡ w → is_capture (operation_at t c) ≡ true → ⊥

-- 1 for a capture, and for one that finds its stimulus
abbrev pub one_capture : Option Bool → ℕ
one_capture None = 0
one_capture (Some b) = 1

abbrev pub one_right : Option Bool → ℕ
one_right None = 0
one_right (Some true) = 1
one_right (Some false) = 0

-- every test over the wires has its wires
abbrev pub FitLanes : List SteppedLane → ℕ → Type 0
FitLanes lanes wires = (i : ℕ) (s : SteppedLane) → slice_get lanes i ≡ Some s → s.lane.tam ≡ true →
    s.lane.first_wire + s.lane.width ≤ wires

-- no lane begins or ends between a cycle and the change
abbrev pub IsLaneUnchanged : ℕ → ℕ → Lane → Type 0
IsLaneUnchanged c change l = IsUnchanged c change l.start × IsUnchanged c change l.end

-- the users among the tests below a place
pub record AreUsersBelow (tests : List PlannedTest) (c p : ℕ) (users : List (Option ℕ)) : Type 0 where
  pub user : (w i : ℕ) → slice_get users w ≡ Some (Some i) → (t : PlannedTest) × IsAt tests i t × (uses c w t ≡ true)
  pub every : (w i : ℕ) (t : PlannedTest) → i < p → w < length users → IsAt tests i t → uses c w t ≡ true →
      slice_get users w ≡ Some (Some i)

-- the bit says whether a response bit is read on the wire
pub record IsMark (tests : List PlannedTest) (c w : ℕ) (b : Bool) : Type 0 where
  pub read : IsCompared tests c w → b ≡ true
  pub only : b ≡ true → IsCompared tests c w

-- the lane at a place, where it stands at the cycle if the wire is the first one of its bus
pub record IsStood (lanes : List SteppedLane) (place wire cycle : ℕ) (new : SteppedLane) : Type 0 where
  pub old : SteppedLane
  pub at : slice_get lanes place ≡ Some old
  pub same : IsSameTest old new
  pub pages : ArePages new
  pub stands : old.lane.first_wire ≡ wire → IsNow new cycle
  pub stays : IsNow old cycle → IsNow new cycle
