-- The names of an accepted certificate are in the chip, and their numbers in the range of a plan file.
use Rattle.std.proofs.Common.{◌≡◌, ℕ, ◌+◌, ◌≤◌, ◌<◌, Bool, Option, Some, None, is_some, List, [], ◌∷◌, ◌++◌, get_or, subst, refl, ap, arith, slice_get, IsTrue, All, Contains, flat_map}
use Rattle.std.proofs.lemmas.List.Elements.{All-get_or, All-weaker}
use Rattle.std.proofs.lemmas.Option.{slice_get-get_or, slice_get_within, get_or_from_slice_get}
use Rattle.soc_model.specs.declared.Test.{Test}
use Rattle.soc_model.specs.declared.TestId.{TestId}
use Rattle.soc_model.specs.declared.TheConstants.{NUMBER_WORD_MOST}
use Rattle.soc_model.specs.Chips.{ModuleValue, SocValue, is_live, live_tests, id_of}
use Rattle.soc_model.specs.Lookups.{module_place}
use Rattle.soc_model.specs.Sizes.{HasSmall, test_numbers}
use Rattle.soc_model.specs.SoundChips.{IsSoundChip}
use Rattle.soc_model.proofs.Places.{IsKeyed-from_sound, module-from_place}
use Rattle.soc_model.proofs.Sums.{all_right, all_flat}
use Rattle.plan_model.specs.Plans.{LimitsValue, WhyValue, OfModule, OfPair, OfChain, OfArea, OfPower, OfForced, BoundValue}
use Rattle.plan_model.specs.Rules.{Each, live_ids}
use Rattle.plan_model.specs.Certificates.{passes, InChip, KeepsList, IsChainItem, IsForcedItem, IsAccepted, has_parent, has_tam_at}
use Rattle.plan_model.proofs.Lists.{from_filter}
use Rattle.plan_model.proofs.PlannedTests.{IsLive, live_at}
use Rattle.bound_certificate.specs.Best.{NamesInChip, HasPlanNumbers}
use Rattle.common_lemmas.proofs.Lists.{contains_at, from_map}

-- ---- in the chip

passed_some : (q : ℕ → Bool) (o : Option ℕ) → IsTrue (passes q o) → IsTrue (is_some o)
passed_some q None passed = absurd cc
passed_some q (Some p) passed = refl

each_all : {X : Type 0} (P : List X → X → Type 0) (Q : X → Type 0) (xs : List X) → ((earlier : List X) (x : X) → P earlier x → Q x) → Each P xs → All Q xs
each_all P Q xs to keeps = λ k d within. to _ (get_or xs k d) (keeps k (get_or xs k d) (slice_get-get_or xs k d within))

pub names_in_chip : (soc : SocValue) (limits : LimitsValue) (bound : BoundValue) → IsAccepted soc limits bound → NamesInChip soc bound.why
names_in_chip soc limits bound accepted = go bound.why accepted.keeps where
  go : (why : WhyValue) → KeepsList soc limits bound.cycles why → NamesInChip soc why
  go (OfModule m) keeps = keeps
  go (OfPair m) keeps = passed_some (has_parent soc) (module_place soc m) keeps
  go (OfChain tests) keeps = each_all (IsChainItem soc limits) (Contains (live_ids soc)) tests (λ earlier id item. item.0) keeps
  go OfArea keeps = tt
  go OfPower keeps = tt
  go (OfForced ms) keeps = each_all (IsForcedItem soc limits.wires bound.cycles) (InChip soc) ms (λ earlier m item. passed_some (has_tam_at soc) (module_place soc m) item.tam) keeps

-- ---- their numbers

small_at : (soc : SocValue) (p : ℕ) (m : ModuleValue) → IsSoundChip soc → slice_get soc.modules p ≡ Some m → HasSmall m
small_at soc p m sound at =
    let small : HasSmall (get_or soc.modules p m) = All-get_or HasSmall soc.modules p m (slice_get_within soc.modules p m at) sound.small in
    let same : get_or soc.modules p m ≡ m = get_or_from_slice_get soc.modules p m m at in
    subst HasSmall same small

-- the module's number, and those of its tests
module-small : (m : ModuleValue) → HasSmall m → m.number ≤ NUMBER_WORD_MOST
module-small m small = let first : m.number < NUMBER_WORD_MOST + 1 = small 0 0 (omega arith) in omega arith

test-small : (m : ModuleValue) (t : Test) (k : ℕ) → HasSmall m → slice_get m.tests k ≡ Some t → t.number ≤ NUMBER_WORD_MOST
test-small m t k small at =
    let front : List ℕ = (m.number ∷ m.level ∷ m.inputs ∷ m.outputs ∷ m.bidirs ∷ m.setup ∷ []) ++ m.chains in
    let tests : All (λ (t : Test). All (λ n. n < NUMBER_WORD_MOST + 1) (test_numbers t)) m.tests = all_flat (λ n. n < NUMBER_WORD_MOST + 1) test_numbers m.tests (all_right (λ n. n < NUMBER_WORD_MOST + 1) front (flat_map test_numbers m.tests) small) in
    let one : All (λ n. n < NUMBER_WORD_MOST + 1) (test_numbers (get_or m.tests k t)) = All-get_or (λ (t : Test). All (λ n. n < NUMBER_WORD_MOST + 1) (test_numbers t)) m.tests k t (slice_get_within m.tests k t at) tests in
    let same : get_or m.tests k t ≡ t = get_or_from_slice_get m.tests k t t at in
    let one' : All (λ n. n < NUMBER_WORD_MOST + 1) (test_numbers t) = subst (λ (t : Test). All (λ n. n < NUMBER_WORD_MOST + 1) (test_numbers t)) same one in
    let first : t.number < NUMBER_WORD_MOST + 1 = one' 0 0 (omega arith) in
    omega arith

number-small : (soc : SocValue) (number : ℕ) → IsSoundChip soc → InChip soc number → number ≤ NUMBER_WORD_MOST
number-small soc number sound there = go (module_place soc number) refl there where
  go : (o : Option ℕ) → module_place soc number ≡ o → IsTrue (is_some o) → number ≤ NUMBER_WORD_MOST
  go None e some = absurd cc
  go (Some p) e some =
      let m = module-from_place (IsKeyed-from_sound sound) number p e in
      omega (arith, m.2, module-small m.0 (small_at soc p m.0 sound m.1))

id-small : (soc : SocValue) (id : TestId) → IsSoundChip soc → Contains (live_ids soc) id → (id.module ≤ NUMBER_WORD_MOST) × (id.test ≤ NUMBER_WORD_MOST)
id-small soc id sound live =
    let k = contains_at (live_ids soc) id live in
    let l = from_map id_of (live_tests soc) k.0 id k.1 in
    let o : IsLive soc.modules 0 l.0 = live_at soc.modules 0 k.0 l.0 l.1 in
    let small : HasSmall (l.0).core = small_at soc o.up (l.0).core sound o.module_at in
    let t = from_filter is_live (l.0).core.tests o.n (l.0).test o.test_at in
    let module_is : (l.0).core.number ≡ id.module = ap (λ (i : TestId). i.module) l.2 in
    let test_is : (l.0).test.number ≡ id.test = ap (λ (i : TestId). i.test) l.2 in (
      omega (arith, module-small (l.0).core small),
      omega (arith, test-small (l.0).core (l.0).test t.0 small t.1),
    )

pub numbers_in_range : (soc : SocValue) (why : WhyValue) → IsSoundChip soc → NamesInChip soc why → HasPlanNumbers why
numbers_in_range soc (OfModule m) sound there = omega (arith, number-small soc m sound there)
numbers_in_range soc (OfPair m) sound there = omega (arith, number-small soc m sound there)
numbers_in_range soc (OfChain tests) sound there = All-weaker (Contains (live_ids soc)) (λ (id : TestId). (id.module ≤ 2000000000000000000) × (id.test ≤ 2000000000000000000)) (λ id live. let small = id-small soc id sound live in (omega (arith, small.0), omega (arith, small.1))) tests there
numbers_in_range soc OfArea sound there = tt
numbers_in_range soc OfPower sound there = tt
numbers_in_range soc (OfForced ms) sound there = All-weaker (InChip soc) (λ m. m ≤ 2000000000000000000) (λ m here. omega (arith, number-small soc m sound here)) ms there
