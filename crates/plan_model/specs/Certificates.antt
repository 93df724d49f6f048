-- Certificates: for what reason a number of cycles bounds every good plan. Modules and tests go by their numbers.
use Rattle.std.specs.Prelude.{◌≡◌, ℕ, ◌+◌, ◌-◌, ◌<◌, ◌≤◌, Bool, true, false, Option, Some, None, is_some, List, length, slice_get, IsTrue}
use Rattle.std.specs.List.{sum_by, Contains}
use Rattle.soc_model.specs.declared.TestId.{TestId}
use Rattle.soc_model.specs.Chips.{SocValue, LiveTest, live_tests, same_test, id_of, parent_place}
use Rattle.soc_model.specs.Lookups.{module_place}
use Rattle.plan_model.specs.Plans.{LimitsValue, WhyValue, OfModule, OfPair, OfChain, OfArea, OfPower, OfForced, BoundValue, of_first}
use Rattle.plan_model.specs.Bounds.{lower, module_bound, pair_bound, lower_tam_time, area_bound, power_bound, need}
use Rattle.plan_model.specs.Rules.{Each, IsFirstBreach, IsNew, live_ids, has_tam}

-- `f` of what is there, or 0 where nothing is
abbrev pub on : {X : Type 0} → Option X → (X → ℕ) → ℕ
on None f = 0
on (Some x) f = f x

-- something is there and passes
abbrev pub passes : {X : Type 0} → (X → Bool) → Option X → Bool
passes p None = false
passes p (Some x) = p x

-- the Pair value by the place of the child
abbrev pub pair_bound_of : SocValue → (w place : ℕ) → ℕ
pair_bound_of soc w place = on (parent_place soc.modules place) (λ parent. pair_bound soc w parent place)

-- the live test of that name
abbrev pub is_called : TestId → LiveTest → Bool
is_called id l = same_test (id_of l) id

-- the lower time of the live test of this name
abbrev pub lower_of_id : SocValue → ℕ → TestId → ℕ
lower_of_id soc w id = of_first (is_called id) (lower w) 0 (live_tests soc)

-- the least width at which the module's TAM tests take less than `b` cycles, or w + 1
abbrev pub need_of : SocValue → (w b m : ℕ) → ℕ
need_of soc w b m = on (module_place soc m) (need soc w b)

-- ---- the value of a certificate

-- 0 where a module is not in the chip, has no parent, or a test is not live
unfoldable pub certificate_value : SocValue → LimitsValue → WhyValue → ℕ
certificate_value soc limits (OfModule m) = on (module_place soc m) (module_bound soc limits.wires)
certificate_value soc limits (OfPair m) = on (module_place soc m) (pair_bound_of soc limits.wires)
certificate_value soc limits (OfChain tests) = sum_by (lower_of_id soc limits.wires) tests
certificate_value soc limits OfArea = area_bound soc limits.wires
certificate_value soc limits OfPower = power_bound soc limits limits.power
certificate_value soc limits (OfForced ms) = sum_by (λ m. on (module_place soc m) (λ place. lower_tam_time soc place limits.wires)) ms

-- ---- the list rule

-- a module is found by the number
abbrev pub InChip : SocValue → ℕ → Type 0
InChip soc m = IsTrue (is_some (module_place soc m))

-- the module at a place has a parent
abbrev pub has_parent : SocValue → ℕ → Bool
has_parent soc place = is_some (parent_place soc.modules place)

-- the module is in the chip and has a parent
abbrev pub HasParent : SocValue → ℕ → Type 0
HasParent soc m = IsTrue (passes (has_parent soc) (module_place soc m))

-- the module at a place has a live test over the wires
abbrev pub has_tam_at : SocValue → ℕ → Bool
has_tam_at soc place = passes has_tam (slice_get soc.modules place)

-- the module is in the chip and has a live test over the wires
abbrev pub HasTamTest : SocValue → ℕ → Type 0
HasTamTest soc m = IsTrue (passes (has_tam_at soc) (module_place soc m))

-- a precedence sets the test behind its forerunner
abbrev pub Follows : LimitsValue → List TestId → TestId → Type 0
Follows limits earlier id = (last : TestId) → slice_get earlier (length earlier - 1) ≡ Some last → Contains limits.before (last, id)

-- an entry of a precedence chain: a live test behind its forerunner
abbrev pub IsChainItem : SocValue → LimitsValue → List TestId → TestId → Type 0
IsChainItem soc limits earlier id = Contains (live_ids soc) id × Follows limits earlier id

-- with each earlier entry the module needs more than all wires, in a plan of less than `b` cycles
abbrev pub NeedsMoreThanWires : SocValue → (w b : ℕ) → List ℕ → ℕ → Type 0
NeedsMoreThanWires soc w b earlier m = (a : ℕ) → Contains earlier a → w < need_of soc w b a + need_of soc w b m

-- an entry of a forced list: no plan of less than `b` cycles has a bus for it beside the bus of an earlier entry
pub record IsForcedItem (soc : SocValue) (w b : ℕ) (earlier : List ℕ) (m : ℕ) : Type 0 where
  pub tam : HasTamTest soc m
  pub new : IsNew earlier m
  pub needs : NeedsMoreThanWires soc w b earlier m

-- the list rule of each kind
abbrev pub KeepsList : SocValue → LimitsValue → (claim : ℕ) → WhyValue → Type 0
KeepsList soc limits claim (OfModule m) = InChip soc m
KeepsList soc limits claim (OfPair m) = HasParent soc m
KeepsList soc limits claim (OfChain tests) = Each (IsChainItem soc limits) tests
KeepsList soc limits claim OfArea = Unit {0}
KeepsList soc limits claim OfPower = Unit {0}
KeepsList soc limits claim (OfForced ms) = Each (IsForcedItem soc limits.wires claim) ms

-- the place is the first of the list that breaks the list rule
abbrev pub IsListBreach : SocValue → LimitsValue → (claim : ℕ) → WhyValue → ℕ → Type 0
IsListBreach soc limits claim (OfModule m) place = (InChip soc m → ⊥) × (place ≡ 0)
IsListBreach soc limits claim (OfPair m) place = (HasParent soc m → ⊥) × (place ≡ 0)
IsListBreach soc limits claim (OfChain tests) place = (id : TestId) × IsFirstBreach (IsChainItem soc limits) tests place id
IsListBreach soc limits claim OfArea place = ⊥
IsListBreach soc limits claim OfPower place = ⊥
IsListBreach soc limits claim (OfForced ms) place = (m : ℕ) × IsFirstBreach (IsForcedItem soc limits.wires claim) ms place m

-- an accepted certificate: the list rule holds, and its value is at least what is claimed
pub record IsAccepted (soc : SocValue) (limits : LimitsValue) (bound : BoundValue) : Type 0 where
  pub keeps : KeepsList soc limits bound.cycles bound.why
  pub enough : bound.cycles ≤ certificate_value soc limits bound.why

-- ---- what a refused certificate shows

-- the place of an entry that breaks the list rule, or the claim and the lower value
pub data CertificateFault : Type 0 where
  BadListFault : (place : ℕ) → CertificateFault
  LessFault : (claimed shown : ℕ) → CertificateFault

-- the first place that breaks the list rule, or else a value below the claim
abbrev pub IsCertificateFault : SocValue → LimitsValue → BoundValue → CertificateFault → Type 0
IsCertificateFault soc limits bound (BadListFault place) = IsListBreach soc limits bound.cycles bound.why place
IsCertificateFault soc limits bound (LessFault claimed shown) =
    KeepsList soc limits bound.cycles bound.why × (claimed ≡ bound.cycles) × (shown ≡ certificate_value soc limits bound.why)
    × (shown < claimed)

-- ---- elementary values

-- every kind but Forced
abbrev pub is_elementary : WhyValue → Bool
is_elementary (OfModule m) = true
is_elementary (OfPair m) = true
is_elementary (OfChain tests) = true
is_elementary OfArea = true
is_elementary OfPower = true
is_elementary (OfForced ms) = false

-- the value of a certificate of any kind but Forced that keeps its list rule
pub record IsElementary (soc : SocValue) (limits : LimitsValue) (n : ℕ) : Type 0 where
  pub why : WhyValue
  pub kind : is_elementary why ≡ true
  pub keeps : KeepsList soc limits n why
  pub value : n ≡ certificate_value soc limits why
