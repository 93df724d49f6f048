-- The faults of a plan: the first rule that it breaks, with what shows that first, and else the fault of its certificate.
use Rattle.std.specs.Prelude.{◌≡◌, ◌≢◌, ℕ, ◌<◌, ◌≤◌, ◌⊎◌, Bool, List, map}
use Rattle.soc_model.specs.declared.TestId.{TestId}
use Rattle.soc_model.specs.Chips.{SocValue}
use Rattle.plan_model.specs.Plans.{BusValue, WrapperValue, PlanValue, LimitsValue, PlannedTest, planned, end_of, greatest, power_at}
use Rattle.plan_model.specs.Rules.{Each, IsFirstBreach, FitsWires, IsKnown, IsNew, IsListed, IsFitting, HasWrapper, HasProperCells, StartsOnce, HasStart, ShareBus, ShareModule, AreParentAndChild, Clash, InOrder, WithinPower, listed, named, used_pairs, pair_of, live_ids, Rule, Widths, Known, Places, Wrappers, Proper, Starts, Wires, Busy, Parents, Precedences, Power, Cycles, Keeps, IsGood}
use Rattle.plan_model.specs.Certificates.{CertificateFault, IsCertificateFault, IsAccepted}

-- a fault, with what it carries; buses go by their places, modules and tests by their numbers
pub data FaultValue : Type 0 where
  WidthFault : (bus : ℕ) → FaultValue
  UnknownModuleFault : (number : ℕ) → FaultValue
  ModulePlaceFault : (number : ℕ) → FaultValue
  WrapperListFault : (number : ℕ) (scan : Bool) → FaultValue
  CellsFault : (number : ℕ) (scan : Bool) → FaultValue
  TestsFault : (test : TestId) → FaultValue
  WireFault : (a b : TestId) (cycle : ℕ) → FaultValue
  BusyFault : (a b : TestId) (cycle : ℕ) → FaultValue
  ParentFault : (a b : TestId) (cycle : ℕ) → FaultValue
  BeforeFault : (a b : TestId) → FaultValue
  PowerFault : (cycle sum : ℕ) → FaultValue
  CyclesFault : (right : ℕ) → FaultValue
  BoundFault : (fault : CertificateFault) → FaultValue

-- the order of the rules; the certificate is looked at last
abbrev pub rank_of : Rule → ℕ
rank_of Widths = 1
rank_of Known = 2
rank_of Places = 3
rank_of Wrappers = 4
rank_of Proper = 5
rank_of Starts = 6
rank_of Wires = 7
rank_of Busy = 8
rank_of Parents = 9
rank_of Precedences = 10
rank_of Power = 11
rank_of Cycles = 12

-- the place of the rule that a fault breaks, 13 for the certificate
abbrev pub fault_rank : FaultValue → ℕ
fault_rank (WidthFault bus) = 1
fault_rank (UnknownModuleFault m) = 2
fault_rank (ModulePlaceFault m) = 3
fault_rank (WrapperListFault m scan) = 4
fault_rank (CellsFault m scan) = 5
fault_rank (TestsFault id) = 6
fault_rank (WireFault a b c) = 7
fault_rank (BusyFault a b c) = 8
fault_rank (ParentFault a b c) = 9
fault_rank (BeforeFault a b) = 10
fault_rank (PowerFault c sum) = 11
fault_rank (CyclesFault right) = 12
fault_rank (BoundFault fault) = 13

-- the first item that breaks the first rule, or else the first that breaks the second; `f` and `g` say what is carried
pub data FirstOf {X Y Z : Type 0} (P : List X → X → Type 0) (xs : List X) (f : X → Z) (Q : List Y → Y → Type 0) (ys : List Y) (g : Y → Z)
    (z : Z) : Type 0 where
  Present : (n : ℕ) (x : X) → IsFirstBreach P xs n x → z ≡ f x → FirstOf P xs f Q ys g z
  Missing : Each P xs → (n : ℕ) (y : Y) → IsFirstBreach Q ys n y → z ≡ g y → FirstOf P xs f Q ys g z

-- the least cycle of a clash, and the least pair there
pub record IsFirstClash (R : PlannedTest → PlannedTest → Type 0) (tests : List PlannedTest) (a b : TestId) (cycle : ℕ) : Type 0 where
  pub i : ℕ
  pub j : ℕ
  pub t : PlannedTest
  pub u : PlannedTest
  pub clash : Clash R tests i j cycle t u
  pub a_is : a ≡ t.id
  pub b_is : b ≡ u.id
  pub least_cycle : (i' j' c : ℕ) (t' u' : PlannedTest) → Clash R tests i' j' c t' u' → cycle ≤ c
  pub least_pair : (i' j' : ℕ) (t' u' : PlannedTest) → Clash R tests i' j' cycle t' u' → (i < i') ⊎ ((i ≡ i') × (j ≤ j'))

-- the least cycle at which the power passes the limit, and its sum
pub record IsFirstExcess (limits : LimitsValue) (tests : List PlannedTest) (cycle sum : ℕ) : Type 0 where
  pub passes : WithinPower limits tests cycle → ⊥
  pub earlier : (c : ℕ) → c < cycle → WithinPower limits tests c
  pub sum_is : sum ≡ power_at limits tests cycle

-- that rule is broken, and this shows it first
abbrev pub Shows : SocValue → LimitsValue → PlanValue → FaultValue → Type 0
Shows soc limits plan (WidthFault bus) = (b : BusValue) × IsFirstBreach (FitsWires limits) plan.buses bus b
Shows soc limits plan (UnknownModuleFault m) = (n : ℕ) × IsFirstBreach (IsKnown soc) (named plan) n m
Shows soc limits plan (ModulePlaceFault m) = FirstOf IsNew (listed plan) (λ x. x) (IsListed plan) soc.modules (λ x. x.number) m
Shows soc limits plan (WrapperListFault m scan) =
    FirstOf (IsFitting soc plan) plan.wrappers pair_of (HasWrapper plan) (used_pairs soc) (λ p. p) (m, scan)
Shows soc limits plan (CellsFault m scan) =
    (n : ℕ) × (w : WrapperValue) × IsFirstBreach (HasProperCells soc) plan.wrappers n w × ((m, scan) ≡ pair_of w)
Shows soc limits plan (TestsFault id) = FirstOf (StartsOnce soc) plan.starts (λ s. s.0) (HasStart plan) (live_ids soc) (λ x. x) id
Shows soc limits plan (WireFault a b c) = IsFirstClash ShareBus (planned soc plan) a b c
Shows soc limits plan (BusyFault a b c) = IsFirstClash ShareModule (planned soc plan) a b c
Shows soc limits plan (ParentFault a b c) = IsFirstClash (AreParentAndChild soc) (planned soc plan) a b c
Shows soc limits plan (BeforeFault a b) = (n : ℕ) × IsFirstBreach (InOrder (planned soc plan)) limits.before n (a, b)
Shows soc limits plan (PowerFault c sum) = IsFirstExcess limits (planned soc plan) c sum
Shows soc limits plan (CyclesFault right) = (plan.cycles ≢ right) × (right ≡ greatest (map end_of (planned soc plan)))
Shows soc limits plan (BoundFault fault) = IsCertificateFault soc limits plan.bound fault

-- the earlier rules are kept, and this shows first that the rule is broken
pub record IsFault (soc : SocValue) (limits : LimitsValue) (plan : PlanValue) (f : FaultValue) : Type 0 where
  pub keeps_before : (r : Rule) → rank_of r < fault_rank f → Keeps soc limits plan r
  pub shows : Shows soc limits plan f

-- a plan without a fault: it is good, and its certificate is accepted
abbrev pub IsFaultless : SocValue → LimitsValue → PlanValue → Type 0
IsFaultless soc limits plan = IsGood soc limits plan × IsAccepted soc limits plan.bound
