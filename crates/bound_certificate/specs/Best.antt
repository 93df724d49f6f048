-- The planner's bound: the greatest of the elementary values, or a forced list that reaches the cycles of the plan.
use Rattle.std.specs.Prelude.{◌≡◌, ℕ, zero, suc, ◌+◌, ◌-◌, ◌<◌, ◌≤◌, ◌⊎◌, Bool, ◌&&◌, Option, Some, None, List, [], ◌∷◌, ◌++◌, map, length, take, reverse, nat_eq, nat_lt, nat_le, slice_get, slice_index, if◌then◌else◌}
use Rattle.std.specs.List.{sum_by, fold, filter, flat_map, list_any, range_with_len, All, Contains}
use Rattle.soc_model.specs.declared.TestId.{TestId}
use Rattle.soc_model.specs.Chips.{ModuleValue, SocValue, is_live, numbers, parent_place}
use Rattle.plan_model.specs.declared.TheConstants.{PLAN_NUMBER_MOST}
use Rattle.plan_model.specs.Plans.{LimitsValue, WhyValue, OfModule, OfPair, OfChain, OfArea, OfPower, OfForced, BoundValue}
use Rattle.plan_model.specs.Bounds.{need}
use Rattle.plan_model.specs.Rules.{Each, live_ids}
use Rattle.plan_model.specs.Certificates.{certificate_value, passes, lower_of_id, has_tam_at, InChip, IsChainItem, IsForcedItem}
use Rattle.bound_certificate.specs.Breaches.{IsBreachPlace}

-- the places of the modules
abbrev pub places : SocValue → List ℕ
places soc = range_with_len 0 (length soc.modules)

-- the number of the module at a place
abbrev pub number_at : SocValue → ℕ → ℕ
number_at soc place = slice_index (numbers soc) place

abbrev pub has_live : ModuleValue → Bool
has_live m = list_any is_live m.tests

-- the module at a place has a live test
abbrev pub has_live_at : SocValue → ℕ → Bool
has_live_at soc place = passes has_live (slice_get soc.modules place)

-- ---- the candidates in their order

-- a module with a live test
abbrev pub module_why : SocValue → ℕ → List WhyValue
module_why soc place = if has_live_at soc place then OfModule (number_at soc place) ∷ [] else []

-- a module that has a live test, and so has its parent
abbrev pub pair_why : SocValue → ℕ → List WhyValue
pair_why soc place =
    if has_live_at soc place && passes (has_live_at soc) (parent_place soc.modules place) then OfPair (number_at soc place) ∷ [] else []

-- the printed precedence chain, where there is one
abbrev pub chain_why : Option (List TestId) → List WhyValue
chain_why None = []
chain_why (Some tests) = OfChain tests ∷ []

-- power, where there is a limit
abbrev pub power_why : Option ℕ → List WhyValue
power_why None = []
power_why (Some most) = OfPower ∷ []

abbrev pub candidates : SocValue → LimitsValue → Option (List TestId) → List WhyValue
candidates soc limits chain =
    flat_map (module_why soc) (places soc) ++ flat_map (pair_why soc) (places soc) ++ chain_why chain ++ OfArea ∷ power_why limits.power

-- a later candidate wins where its value is greater
abbrev pub better : (WhyValue → ℕ) → Option WhyValue → WhyValue → Option WhyValue
better f None why = Some why
better f (Some best) why = if nat_lt (f best) (f why) then Some why else Some best

-- the first candidate of greatest value
abbrev pub winner : (WhyValue → ℕ) → List WhyValue → Option WhyValue
winner f whys = fold (better f) None whys

-- the certificate that claims the value of a candidate; 0 by Area where there is none
abbrev pub claimed_by : (WhyValue → ℕ) → Option WhyValue → BoundValue
claimed_by f None = record { cycles = 0; why = OfArea }
claimed_by f (Some why) = record { cycles = f why; why = why }

-- ---- the printed precedence chain: it goes back from the test of greatest sum

-- the lists that keep the rule of precedence chains and end in the test
abbrev pub EndsIn : SocValue → LimitsValue → TestId → List TestId → Type 0
EndsIn soc limits id ids = Each (IsChainItem soc limits) ids × (slice_get ids (length ids - 1) ≡ Some id)

-- the greatest sum of lower times over such a list
pub record IsGreatestSum (soc : SocValue) (limits : LimitsValue) (id : TestId) (s : ℕ) : Type 0 where
  pub ids : List TestId
  pub ends : EndsIn soc limits id ids
  pub sum_is : s ≡ sum_by (lower_of_id soc limits.wires) ids
  pub greatest : (others : List TestId) → EndsIn soc limits id others → sum_by (lower_of_id soc limits.wires) others ≤ s

-- of the live tests with a property, the first of greatest sum in the order of the chip
pub record IsFirstGreatest (soc : SocValue) (limits : LimitsValue) (P : TestId → Type 0) (id : TestId) : Type 0 where
  pub place : ℕ
  pub there : slice_get (live_ids soc) place ≡ Some id
  pub taken : P id
  pub s : ℕ
  pub sum : IsGreatestSum soc limits id s
  pub first : (m : ℕ) (other : TestId) (t : ℕ) → slice_get (live_ids soc) m ≡ Some other → P other → IsGreatestSum soc limits other t →
      (t < s) ⊎ ((t ≡ s) × (place ≤ m))

-- a precedence sets the later test behind this one
abbrev pub IsBefore : LimitsValue → (later earlier : TestId) → Type 0
IsBefore limits later earlier = Contains limits.before (earlier, later)

-- some live test precedes it
abbrev pub HasBefore : SocValue → LimitsValue → TestId → Type 0
HasBefore soc limits id = (a : TestId) × Contains (live_ids soc) a × IsBefore limits id a

-- the tests before `id` in the printed chain, the nearest first
abbrev pub GoesBack : SocValue → LimitsValue → TestId → List TestId → Type 0
GoesBack soc limits id [] = HasBefore soc limits id → ⊥
GoesBack soc limits id (a ∷ back) = IsFirstGreatest soc limits (IsBefore limits id) a × GoesBack soc limits a back

-- the printed chain; there is none exactly where no live test has a live test before it
abbrev pub IsPrintedChain : SocValue → LimitsValue → Option (List TestId) → Type 0
IsPrintedChain soc limits None = (id : TestId) → Contains (live_ids soc) id → HasBefore soc limits id → ⊥
IsPrintedChain soc limits (Some ids) = (last : TestId) × (back : List TestId) × (ids ≡ reverse (last ∷ back))
    × IsFirstGreatest soc limits (HasBefore soc limits) last × GoesBack soc limits last back

-- the sum of a list that is there, or 0
abbrev pub chain_sum : SocValue → (w : ℕ) → Option (List TestId) → ℕ
chain_sum soc w None = 0
chain_sum soc w (Some ids) = sum_by (lower_of_id soc w) ids

-- no list of two tests or more that keeps the rule of precedence chains has a greater sum
abbrev pub IsGreatestChain : SocValue → LimitsValue → Option (List TestId) → Type 0
IsGreatestChain soc limits chain = (ids : List TestId) → Each (IsChainItem soc limits) ids → 2 ≤ length ids →
    sum_by (lower_of_id soc limits.wires) ids ≤ chain_sum soc limits.wires chain

-- ---- the forced list that is tried

-- n, n - 1, .. 1
abbrev pub down_from : ℕ → List ℕ
down_from zero = []
down_from (suc n) = suc n ∷ down_from n

-- the modules with a test over the wires that need `k` wires, in a plan of fewer than `b` cycles
abbrev pub with_need : SocValue → (w b k : ℕ) → List ℕ
with_need soc w b k = map (number_at soc) (filter (λ place. has_tam_at soc place && nat_eq (need soc w b place) k) (places soc))

-- by need, greatest first, and then by place
abbrev pub by_need : SocValue → (w b : ℕ) → List ℕ
by_need soc w b = flat_map (with_need soc w b) (down_from (w + 1))

abbrev pub up_to : {X : Type 0} → Option ℕ → List X → List X
up_to None xs = xs
up_to (Some n) xs = take n xs

-- their longest part from the front on that keeps the list rule
abbrev pub IsForcedPart : SocValue → LimitsValue → ℕ → List ℕ → Type 0
IsForcedPart soc limits b ms = (place : Option ℕ) × IsBreachPlace (IsForcedItem soc limits.wires b) (by_need soc limits.wires b) place
    × (ms ≡ up_to place (by_need soc limits.wires b))

-- ---- the bound

-- the winner of the candidates, with its value
abbrev pub winning : SocValue → LimitsValue → Option (List TestId) → BoundValue
winning soc limits chain = claimed_by (certificate_value soc limits) (winner (certificate_value soc limits) (candidates soc limits chain))

-- the forced list, where the winner is less than the cycles and the value of the list isn't; else the winner
abbrev pub forced_or : SocValue → LimitsValue → (cycles : ℕ) → List ℕ → BoundValue → BoundValue
forced_or soc limits cycles ms best =
    if nat_lt best.cycles cycles && nat_le cycles (certificate_value soc limits (OfForced ms))
    then record { cycles = cycles; why = OfForced ms } else best

-- the planner's bound with this chain among the candidates
pub record IsBestWith (soc : SocValue) (limits : LimitsValue) (cycles : ℕ) (chain : Option (List TestId))
    (bound : BoundValue) : Type 0 where
  pub forced : List ℕ
  pub part : (winning soc limits chain).cycles < cycles → IsForcedPart soc limits cycles forced
  pub is : bound ≡ forced_or soc limits cycles forced (winning soc limits chain)

-- the planner's bound for a plan of `cycles` cycles
pub record IsBestBound (soc : SocValue) (limits : LimitsValue) (cycles : ℕ) (bound : BoundValue) : Type 0 where
  pub chain : Option (List TestId)
  pub printed : IsPrintedChain soc limits chain
  pub best : IsBestWith soc limits cycles chain bound

-- ---- what the certificate names

-- its modules are in the chip, and its tests are live tests of the chip
abbrev pub NamesInChip : SocValue → WhyValue → Type 0
NamesInChip soc (OfModule m) = InChip soc m
NamesInChip soc (OfPair m) = InChip soc m
NamesInChip soc (OfChain tests) = All (Contains (live_ids soc)) tests
NamesInChip soc OfArea = Unit {0}
NamesInChip soc OfPower = Unit {0}
NamesInChip soc (OfForced ms) = All (InChip soc) ms

-- the numbers of its modules and tests are numbers of a plan file
abbrev pub HasPlanNumbers : WhyValue → Type 0
HasPlanNumbers (OfModule m) = m ≤ PLAN_NUMBER_MOST
HasPlanNumbers (OfPair m) = m ≤ PLAN_NUMBER_MOST
HasPlanNumbers (OfChain tests) = All (λ (id : TestId). (id.module ≤ PLAN_NUMBER_MOST) × (id.test ≤ PLAN_NUMBER_MOST)) tests
HasPlanNumbers OfArea = Unit {0}
HasPlanNumbers OfPower = Unit {0}
HasPlanNumbers (OfForced ms) = All (λ m. m ≤ PLAN_NUMBER_MOST) ms
