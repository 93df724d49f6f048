-- The rules of good plans, item by item. A plan is good where it keeps all of them.
use Rattle.std.specs.Prelude.{◌≡◌, ℕ, ◌+◌, ◌<◌, ◌≤◌, Bool, true, false, None, Some, max, List, [], ◌∷◌, ◌++◌, map, length, take, slice_get, slice_index, IfSome, IsTrue, if◌then◌else◌}
use Rattle.std.specs.List.{sum, sum_by, flat_map, Contains}
use Rattle.soc_model.specs.declared.Test.{Test}
use Rattle.soc_model.specs.declared.TestId.{TestId}
use Rattle.soc_model.specs.Chips.{ModuleValue, SocValue, IsParent, live_tests, id_of}
pub use Rattle.soc_model.specs.Modes.{has_tam, uses_mode}
use Rattle.plan_model.specs.Cells.{IsProper}
use Rattle.plan_model.specs.Plans.{BusValue, WrapperValue, PlanValue, LimitsValue, PlannedTest, planned, end_of, greatest, power_at, bus_place, widths}
use Rattle.plan_model.specs.Right.{IsAt, Meet}

-- each item keeps its rule, given the items before it
abbrev pub Each : {X : Type 0} → (List X → X → Type 0) → List X → Type 0
Each {X} P xs = (n : ℕ) (x : X) → slice_get xs n ≡ Some x → P (take n xs) x

-- the item at place `n` breaks its rule, and each item before it keeps it
pub record IsFirstBreach {X : Type 0} (P : List X → X → Type 0) (xs : List X) (n : ℕ) (x : X) : Type 0 where
  pub there : slice_get xs n ≡ Some x
  pub breaks : P (take n xs) x → ⊥
  pub earlier : (m : ℕ) (y : X) → m < n → slice_get xs m ≡ Some y → P (take m xs) y

-- the modules that the buses list
abbrev pub listed : PlanValue → List ℕ
listed plan = flat_map (λ (b : BusValue). b.modules) plan.buses

-- all modules that the plan names, those of buses before those of wrappers
abbrev pub named : PlanValue → List ℕ
named plan = listed plan ++ map (λ (w : WrapperValue). w.«module») plan.wrappers

-- the pair of the module and the mode, where a live test over the wires is in it
abbrev pub mode_pair : Bool → ModuleValue → List (ℕ × Bool)
mode_pair scan m = if uses_mode scan m then (m.number, scan) ∷ [] else []

-- the pairs of a module and a mode that want a wrapper, in the order of the chip, scan before terminals
abbrev pub used_pairs : SocValue → List (ℕ × Bool)
used_pairs soc = flat_map (λ (m : ModuleValue). mode_pair true m ++ mode_pair false m) soc.modules

-- the module and the mode of a wrapper
abbrev pub pair_of : WrapperValue → ℕ × Bool
pair_of w = (w.«module», w.scan)

-- the live tests by name, in the order of the chip
abbrev pub live_ids : SocValue → List TestId
live_ids soc = map id_of (live_tests soc)

-- ---- what each rule asks, item by item

-- a bus has a wire, and the buses up to it have no more than there are
abbrev pub FitsWires : LimitsValue → List BusValue → BusValue → Type 0
FitsWires limits earlier b = (1 ≤ b.width) × (sum_by (λ (b : BusValue). b.width) earlier + b.width ≤ limits.wires)

-- the module is in the chip
abbrev pub IsKnown : SocValue → List ℕ → ℕ → Type 0
IsKnown soc earlier m = Contains soc.keys m

-- it stands among none of the earlier ones
abbrev pub IsNew : {X : Type 0} → List X → X → Type 0
IsNew earlier x = Contains earlier x → ⊥

-- a bus lists the module, where it has a test over the wires
abbrev pub IsListed : PlanValue → List ModuleValue → ModuleValue → Type 0
IsListed plan earlier m = IsTrue (has_tam m) → Contains (listed plan) m.number

-- the wrapper is of a pair that is used, the first of its pair, and has one chain at least and no more than its bus has wires
pub record IsFitting (soc : SocValue) (plan : PlanValue) (earlier : List WrapperValue) (w : WrapperValue) : Type 0 where
  pub used : Contains (used_pairs soc) (pair_of w)
  pub new : IsNew (map pair_of earlier) (pair_of w)
  pub some_chain : 1 ≤ length w.chains
  pub on_wires : length w.chains ≤ slice_index (widths plan) (bus_place w.«module» 0 plan.buses)

-- the pair has a wrapper
abbrev pub HasWrapper : PlanValue → List (ℕ × Bool) → ℕ × Bool → Type 0
HasWrapper plan earlier pair = Contains (map pair_of plan.wrappers) pair

-- the wrapper is proper for its module
abbrev pub HasProperCells : SocValue → List WrapperValue → WrapperValue → Type 0
HasProperCells soc earlier w =
    (n : ℕ) (m : ModuleValue) → slice_get soc.modules n ≡ Some m → m.number ≡ w.«module» → IsProper m w.scan w.chains

-- the wrappers have one for the mode of a test of the module, and each such is proper
pub record IsWrapped (m : ModuleValue) (t : Test) (wrappers : List WrapperValue) : Type 0 where
  pub there : Contains (map pair_of wrappers) (m.number, t.scan)
  pub proper : (k : ℕ) (w : WrapperValue) → slice_get wrappers k ≡ Some w → pair_of w ≡ (m.number, t.scan) → IsProper m t.scan w.chains

-- the start is of a live test, and the first of it
abbrev pub StartsOnce : SocValue → List (TestId × ℕ) → TestId × ℕ → Type 0
StartsOnce soc earlier s = Contains (live_ids soc) s.0 × IsNew (map (λ (e : TestId × ℕ). e.0) earlier) s.0

-- the test has a start
abbrev pub HasStart : PlanValue → List TestId → TestId → Type 0
HasStart plan earlier id = Contains (map (λ (e : TestId × ℕ). e.0) plan.starts) id

-- two tests over the wires of one bus, which may not meet; so of two tests of a module, and of a module and its child
abbrev pub ShareBus : PlannedTest → PlannedTest → Type 0
ShareBus t u = IsTrue t.tam × IsTrue u.tam × (t.bus ≡ u.bus)

abbrev pub ShareModule : PlannedTest → PlannedTest → Type 0
ShareModule t u = t.place ≡ u.place

abbrev pub AreParentAndChild : SocValue → PlannedTest → PlannedTest → Type 0
AreParentAndChild soc t u = IsParent soc.modules t.place u.place

-- a pair of tests, the first one before the other in the order of the chip, that meet at a cycle
pub record Clash (R : PlannedTest → PlannedTest → Type 0) (tests : List PlannedTest) (i j c : ℕ) (t u : PlannedTest) : Type 0 where
  pub first : IsAt tests i t
  pub second : IsAt tests j u
  pub order : i < j
  pub related : R t u
  pub meet : Meet t u c

-- no two tests that are so related meet
abbrev pub NoClash : (PlannedTest → PlannedTest → Type 0) → List PlannedTest → Type 0
NoClash R tests = (i j c : ℕ) (t u : PlannedTest) → Clash R tests i j c t u → ⊥

-- the first test has ended as the second starts, where both are live
abbrev pub InOrder : List PlannedTest → List (TestId × TestId) → TestId × TestId → Type 0
InOrder tests earlier p = (i j : ℕ) (t u : PlannedTest) → IsAt tests i t → IsAt tests j u → p ≡ (t.id, u.id) → end_of t ≤ u.start

-- what the tests draw at the cycle is within the limit, where there is one
abbrev pub WithinPower : LimitsValue → List PlannedTest → ℕ → Type 0
WithinPower limits tests c = IfSome limits.power (λ most. power_at limits tests c ≤ most)

-- ---- the rules in their order

-- twelve rules
pub data Rule : Type 0 where
  Widths : Rule
  Known : Rule
  Places : Rule
  Wrappers : Rule
  Proper : Rule
  Starts : Rule
  Wires : Rule
  Busy : Rule
  Parents : Rule
  Precedences : Rule
  Power : Rule
  Cycles : Rule

-- what it means to keep a rule
abbrev pub Keeps : SocValue → LimitsValue → PlanValue → Rule → Type 0
Keeps soc limits plan Widths = Each (FitsWires limits) plan.buses
Keeps soc limits plan Known = Each (IsKnown soc) (named plan)
Keeps soc limits plan Places = Each IsNew (listed plan) × Each (IsListed plan) soc.modules
Keeps soc limits plan Wrappers = Each (IsFitting soc plan) plan.wrappers × Each (HasWrapper plan) (used_pairs soc)
Keeps soc limits plan Proper = Each (HasProperCells soc) plan.wrappers
Keeps soc limits plan Starts = Each (StartsOnce soc) plan.starts × Each (HasStart plan) (live_ids soc)
Keeps soc limits plan Wires = NoClash ShareBus (planned soc plan)
Keeps soc limits plan Busy = NoClash ShareModule (planned soc plan)
Keeps soc limits plan Parents = NoClash (AreParentAndChild soc) (planned soc plan)
Keeps soc limits plan Precedences = Each (InOrder (planned soc plan)) limits.before
Keeps soc limits plan Power = (c : ℕ) → WithinPower limits (planned soc plan) c
Keeps soc limits plan Cycles = plan.cycles ≡ greatest (map end_of (planned soc plan))

-- all rules are kept
abbrev pub IsGood : SocValue → LimitsValue → PlanValue → Type 0
IsGood soc limits plan = (r : Rule) → Keeps soc limits plan r

-- every good plan has at least `b` cycles
abbrev pub IsBound : SocValue → LimitsValue → ℕ → Type 0
IsBound soc limits b = (plan : PlanValue) → IsGood soc limits plan → b ≤ plan.cycles

-- ---- a good plan without limits: on as many wires as it has, and with no other limit

abbrev pub bare_limits : PlanValue → LimitsValue
bare_limits plan = record { wires = max 1 (sum (widths plan)); power = None; before = []; budget = 0; profiles = [] }

abbrev pub IsGoodAlone : SocValue → PlanValue → Type 0
IsGoodAlone soc plan = IsGood soc (bare_limits plan) plan
