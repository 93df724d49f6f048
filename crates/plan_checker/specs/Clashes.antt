-- Pairs of placed tests that may not meet and do.
use Rattle.std.specs.Prelude.{◌≡◌, ℕ, ◌<◌, ◌≤◌, ◌⊎◌, Bool, true, false, Option, Some, None, List, slice_get, slice_index, nat_eq}
use Rattle.soc_model.specs.declared.TestId.{TestId}
use Rattle.plan_checker.specs.declared.PlanFault.{PlanFault}
use Rattle.plan_checker.specs.declared.PlanFault.TheVariants as fault
use Rattle.plan_model.specs.Rules.{Rule, Wires, Busy, Parents}
use Rattle.live_tests.specs.declared.placed.PlacedTest.{PlacedTest}
use Rattle.plan_checker.specs.declared.clashes.ClashPlace.{ClashPlace}
use Rattle.plan_checker.specs.declared.clashes.Apart.{Apart}
use Rattle.plan_checker.specs.declared.clashes.Apart.TheVariants as apart

-- both have the same number; without one it is none
abbrev pub same_slot : Option ℕ → Option ℕ → Bool
same_slot None b = false
same_slot (Some s) None = false
same_slot (Some s) (Some t) = nat_eq s t

-- whether the rule keeps the two apart, the first being before the second in the order of the chip
abbrev pub keeps_apart : List ℕ → Apart → PlacedTest → PlacedTest → Bool
keeps_apart parents apart.OneBus a b = same_slot a.bus b.bus
keeps_apart parents apart.OneModule a b = nat_eq a.place b.place
keeps_apart parents apart.ParentAndChild a b = nat_eq a.place (slice_index parents b.place)

-- both are kept apart and active at the cycle
pub record BothAt (r : PlacedTest → PlacedTest → Bool) (a b : PlacedTest) (c : ℕ) : Type 0 where
  pub related : r a b ≡ true
  pub begun : a.start ≤ c
  pub begun' : b.start ≤ c
  pub active : c < a.end
  pub active' : c < b.end

pub record Clash (r : PlacedTest → PlacedTest → Bool) (placed : List PlacedTest) (i j c : ℕ) : Type 0 where
  pub a : PlacedTest
  pub b : PlacedTest
  pub at : slice_get placed i ≡ Some a
  pub at' : slice_get placed j ≡ Some b
  pub order : i < j
  pub both : BothAt r a b c

-- pairs in the order of their first and then their second place
abbrev pub IsBefore : (i j i' j' : ℕ) → Type 0
IsBefore i j i' j' = (i < i') ⊎ ((i ≡ i') × (j < j'))

-- the least cycle, and the least pair there, of the pairs that stand before `i`, `j`
pub record IsLeast (r : PlacedTest → PlacedTest → Bool) (placed : List PlacedTest) (i j : ℕ) (f : ClashPlace) : Type 0 where
  pub clash : Clash r placed f.first f.second f.cycle
  pub least : (x y c : ℕ) → IsBefore x y i j → Clash r placed x y c → f.cycle ≤ c
  pub first : (x y : ℕ) → IsBefore x y f.first f.second → Clash r placed x y f.cycle → ⊥

abbrev pub IsBest : (PlacedTest → PlacedTest → Bool) → List PlacedTest → ℕ → ℕ → Option ClashPlace → Type 0
IsBest r placed i j None = (x y c : ℕ) → IsBefore x y i j → Clash r placed x y c → ⊥
IsBest r placed i j (Some f) = IsLeast r placed i j f

-- ---- the pairs at one cycle

-- no test behind the one at a place meets it at the cycle
abbrev pub HasNoPartner : (PlacedTest → PlacedTest → Bool) → List PlacedTest → (i c : ℕ) → Type 0
HasNoPartner r placed i c = (j : ℕ) → Clash r placed i j c → ⊥

-- the first test that does
pub record IsFirstPartner (r : PlacedTest → PlacedTest → Bool) (placed : List PlacedTest) (i c j : ℕ) : Type 0 where
  pub clash : Clash r placed i j c
  pub first : (k : ℕ) → k < j → Clash r placed i k c → ⊥

-- the first pair at the cycle
pub record IsFirstPair (r : PlacedTest → PlacedTest → Bool) (placed : List PlacedTest) (c : ℕ) (f : ClashPlace) : Type 0 where
  pub cycle_is : f.cycle ≡ c
  pub clash : Clash r placed f.first f.second c
  pub first : (x y : ℕ) → IsBefore x y f.first f.second → Clash r placed x y c → ⊥

-- the least cycle of a clash
pub record IsLeastCycle (r : PlacedTest → PlacedTest → Bool) (placed : List PlacedTest) (c : ℕ) : Type 0 where
  pub i : ℕ
  pub j : ℕ
  pub clash : Clash r placed i j c
  pub least : (x y d : ℕ) → Clash r placed x y d → c ≤ d

abbrev pub IsFirstCycle : (PlacedTest → PlacedTest → Bool) → List PlacedTest → Option ℕ → Type 0
IsFirstCycle r placed None = (x y c : ℕ) → Clash r placed x y c → ⊥
IsFirstCycle r placed (Some c) = IsLeastCycle r placed c

abbrev pub rule_for : Apart → Rule
rule_for apart.OneBus = Wires
rule_for apart.OneModule = Busy
rule_for apart.ParentAndChild = Parents

-- a test of a parent stands before each test of the child
abbrev pub ParentsFirst : List ℕ → List PlacedTest → Type 0
ParentsFirst parents placed =
    (i j : ℕ) (a b : PlacedTest) → slice_get placed i ≡ Some a → slice_get placed j ≡ Some b → a.place ≡ slice_index parents b.place → i < j

abbrev pub PlacesWithin : ℕ → List PlacedTest → Type 0
PlacesWithin n placed = (i : ℕ) (j : PlacedTest) → slice_get placed i ≡ Some j → j.place < n

abbrev pub clash_fault : Apart → TestId → TestId → ℕ → PlanFault
clash_fault apart.OneBus a b c = fault.Wire a b c
clash_fault apart.OneModule a b c = fault.Busy a b c
clash_fault apart.ParentAndChild a b c = fault.Parent a b c
