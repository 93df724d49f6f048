-- In a good plan tests that exclude each other are never active at one cycle.
use Rattle.std.proofs.Common.{◌≡◌, ◌≢◌, ℕ, zero, suc, ◌+◌, ◌-◌, ◌≤◌, ◌<◌, Bool, Some, List, [], ◌∷◌, length, map, refl, ap, ◌∙◌, sym, arith, inl, inr, leb, slice_get, if◌then◌else◌, sum_by, Contains}
use Rattle.std.proofs.lemmas.Bool.{cases_Bool, cases_lt, le-leb, lt-ltb}
use Rattle.std.proofs.lemmas.Option.{slice_get-map}
use Rattle.soc_model.specs.declared.TestId.{TestId}
use Rattle.soc_model.specs.Chips.{SocValue, LiveTest, IsParent, live_tests, id_of, same_test}
use Rattle.plan_model.specs.Plans.{ProfileValue, PlanValue, LimitsValue, PlannedTest, planned, planned_test, of_first, smallest, step_power, power_of_id, power_of, power_at, is_active, end_of, IsActive}
use Rattle.plan_model.specs.Right.{IsAt, Meet}
use Rattle.plan_model.specs.Rules.{IsGood, Busy, Parents, Precedences, Power, live_ids}
use Rattle.plan_model.specs.SoundLimits.{IsSoundLimits, IsSoundProfile}
use Rattle.std.proofs.lemmas.List.Elements.{All-contains}
use Rattle.plan_model.proofs.GoodPlansRunRight.{planned_in_order}
use Rattle.plan_model.proofs.Lists.{at_contains}
use Rattle.plan_model.proofs.PlannedTests.{Origin, origin}
use Rattle.plan_model.proofs.Sums.{sum_by-filter, two-le-sum_by}
use Rattle.live_tests.proofs.Precedences.{StandsFor, stands_for}
use Rattle.proof_facts.specs.Exclusions.{Leads, OnePair, PairFirst, least_power, Reason, OneModule, IsParentOf, IsChildOf, ComesBefore, ComesAfter, TooMuchPower, Excludes}
use Rattle.live_tests.specs.Names.{precedences}
use Rattle.common_lemmas.proofs.Lists.{contains_at, from_map}

-- ---- a planned test and its live test

planned_id : (plan : PlanValue) (l : LiveTest) → (planned_test plan l.place l.core l.test).id ≡ id_of l
unfolding planned_test
planned_id plan l = refl

planned_place : (plan : PlanValue) (l : LiveTest) → (planned_test plan l.place l.core l.test).place ≡ l.place
unfolding planned_test
planned_place plan l = refl

planned_power : (plan : PlanValue) (l : LiveTest) → (planned_test plan l.place l.core l.test).power ≡ l.test.power
unfolding planned_test
planned_power plan l = refl

-- what a planned test has of the live test at its place
record IsPlan (l : LiveTest) (t : PlannedTest) : Type 0 where
  pub id : t.id ≡ id_of l
  pub place : t.place ≡ l.place
  pub power : t.power ≡ l.test.power

plan_of_live : (soc : SocValue) (plan : PlanValue) (i : ℕ) (l : LiveTest) (t : PlannedTest) → slice_get (live_tests soc) i ≡ Some l → IsAt (planned soc plan) i t → IsPlan l t
plan_of_live soc plan i l t at there =
    let o : Origin soc plan i t = origin soc plan i t there in
    let found : Some o.l ≡ Some l = sym o.at ∙ at in
    let same : o.l ≡ l = cc in
    record {
      id = ap (λ (t : PlannedTest). t.id) (sym o.is) ∙ planned_id plan o.l ∙ ap id_of same;
      place = ap (λ (t : PlannedTest). t.place) (sym o.is) ∙ planned_place plan o.l ∙ ap (λ (l : LiveTest). l.place) same;
      power = ap (λ (t : PlannedTest). t.power) (sym o.is) ∙ planned_power plan o.l ∙ ap (λ (l : LiveTest). l.test.power) same;
    }

-- a place with a name has a planned test
planned_there : (soc : SocValue) (plan : PlanValue) (i : ℕ) (id : TestId) → slice_get (live_ids soc) i ≡ Some id → (t : PlannedTest) × IsAt (planned soc plan) i t
unfolding planned
planned_there soc plan i id at =
    let l = from_map id_of (live_tests soc) i id at in
    (planned_test plan (l.0).place (l.0).core (l.0).test, slice_get-map (λ (l : LiveTest). planned_test plan l.place l.core l.test) (live_tests soc) i ∙ rw l.1 refl)

id_there : (soc : SocValue) (plan : PlanValue) (i : ℕ) (id : TestId) (t : PlannedTest) → slice_get (live_ids soc) i ≡ Some id → IsAt (planned soc plan) i t → t.id ≡ id
id_there soc plan i id t at there =
    let l = from_map id_of (live_tests soc) i id at in
    (plan_of_live soc plan i l.0 t l.1 there).id ∙ l.2

-- ---- precedences

pair_order : (soc : SocValue) (limits : LimitsValue) (plan : PlanValue) → IsGood soc limits plan → (i j : ℕ) (t u : PlannedTest) → Contains (precedences soc limits) (i, j) → IsAt (planned soc plan) i t → IsAt (planned soc plan) j u → end_of t ≤ u.start
pair_order soc limits plan good i j t u c at at' =
    let s : StandsFor (live_ids soc) limits.before i j = stands_for (live_ids soc) limits.before i j c in
    let k = contains_at limits.before (s.first, s.second) s.precedes in
    good Precedences k.0 (s.first, s.second) k.1 i j t u at at' (rw (id_there soc plan i s.first t s.first_at at, id_there soc plan j s.second u s.second_at at') refl)

path_order : (soc : SocValue) (limits : LimitsValue) (plan : PlanValue) → IsGood soc limits plan → (i j : ℕ) (t u : PlannedTest) → Leads (precedences soc limits) i j → IsAt (planned soc plan) i t → IsAt (planned soc plan) j u → end_of t ≤ u.start
path_order soc limits plan good _ _ t u (OnePair i j c) at at' = pair_order soc limits plan good i j t u c at at'
path_order soc limits plan good _ _ t u (PairFirst i k j c rest) at at' =
    let s : StandsFor (live_ids soc) limits.before i k = stands_for (live_ids soc) limits.before i k c in
    let v = planned_there soc plan k s.second s.second_at in
    omega (arith, pair_order soc limits plan good i k t v.0 c at v.1, path_order soc limits plan good k j v.0 u rest v.1 at')

-- ---- power

smallest-le : (p : ℕ) (ps : List ℕ) (i x : ℕ) → slice_get (p ∷ ps) i ≡ Some x → smallest (p ∷ ps) ≤ x
smallest-le p [] zero x at = let same : p ≡ x = cc in omega arith
smallest-le p [] (suc i) x at = absurd cc
smallest-le p (q ∷ ps) zero x at = let same : p ≡ x = cc in omega arith
smallest-le p (q ∷ ps) (suc i) x at = omega (arith, smallest-le q ps i x at)

-- what holds of the power so far and of each step holds of the power at each cycle
step_least : (least r now : ℕ) (steps : List (ℕ × ℕ)) → least ≤ now → ((i : ℕ) (s : ℕ × ℕ) → slice_get steps i ≡ Some s → least ≤ s.1) → least ≤ step_power r now steps
step_least least r now [] so_far h = so_far
step_least least r now (s ∷ steps) so_far h = elim (cases_Bool (leb s.0 r)) [
  | inl yes' ↦ rw yes' (step_least least r s.1 steps (h 0 s refl) (λ i x at. h (suc i) x at))
  | inr no' ↦ rw no' (step_least least r now steps so_far (λ i x at. h (suc i) x at))
]

steps_least : (r : ℕ) (steps : List (ℕ × ℕ)) → (first : ℕ) × (slice_get steps 0 ≡ Some (0, first)) → smallest (map (λ (s : ℕ × ℕ). s.1) steps) ≤ step_power r 0 steps
steps_least r [] begins = absurd cc
steps_least r (s ∷ steps) begins =
    let zero_first : s.0 ≡ 0 = ap (λ (p : ℕ × ℕ). p.0) (first_is s (0, begins.0) begins.1) in
    rw (le-leb s.0 r (omega arith)) (step_least (smallest (map (λ (s : ℕ × ℕ). s.1) (s ∷ steps))) r s.1 steps (in_steps 0 s refl) (λ i x at. in_steps (suc i) x at))
  where
    first_is : (s p : ℕ × ℕ) → Some s ≡ Some p → s ≡ p
    first_is s p e = cc

    in_steps : (i : ℕ) (x : ℕ × ℕ) → slice_get (s ∷ steps) i ≡ Some x → smallest (map (λ (s : ℕ × ℕ). s.1) (s ∷ steps)) ≤ x.1
    in_steps i x at = smallest-le s.1 (map (λ (s : ℕ × ℕ). s.1) steps) i x.1 (slice_get-map (λ (s : ℕ × ℕ). s.1) (s ∷ steps) i ∙ rw at refl)

of_first-le : {X : Type 0} (p : X → Bool) (f g : X → ℕ) (d : ℕ) (xs : List X) → ((i : ℕ) (x : X) → slice_get xs i ≡ Some x → f x ≤ g x) → of_first p f d xs ≤ of_first p g d xs
of_first-le p f g d [] h = omega arith
of_first-le p f g d (x ∷ xs) h = elim (cases_Bool (p x)) [
  | inl yes' ↦ rw yes' (h 0 x refl)
  | inr no' ↦ rw no' (of_first-le p f g d xs (λ i y at. h (suc i) y at))
]

-- no cycle of a test draws less than its least power
pub least_power-le : (soc : SocValue) (limits : LimitsValue) (l : LiveTest) → IsSoundLimits soc limits → (r : ℕ) → least_power limits l ≤ power_of_id limits (id_of l) l.test.power r
least_power-le soc limits l sound r =
    of_first-le (λ (p : ProfileValue). same_test p.test (id_of l)) (λ p. smallest (map (λ (s : ℕ × ℕ). s.1) p.steps)) (λ p. step_power r 0 p.steps) l.test.power limits.profiles
    (λ i p at. steps_least r p.steps (All-contains (IsSoundProfile soc) limits.profiles p sound.profiles (at_contains limits.profiles i p at)).begins)

-- what it draws at a cycle at which it is active
active_draw : (soc : SocValue) (limits : LimitsValue) (l : LiveTest) (t : PlannedTest) (c : ℕ) → IsSoundLimits soc limits → IsPlan l t → IsActive t c → least_power limits l ≤ (if is_active c t then power_of limits t (c - t.start) else 0)
active_draw soc limits l t c sound is active =
    rw (le-leb t.start c active.0, lt-ltb c (t.start + length t.operations) active.1, is.id, is.power) (least_power-le soc limits l sound (c - t.start))

over_limit : (soc : SocValue) (limits : LimitsValue) (plan : PlanValue) → IsSoundLimits soc limits → IsGood soc limits plan → (i j c most : ℕ) (a b : LiveTest) (t u : PlannedTest) → IsPlan a t → IsPlan b u → i < j → IsAt (planned soc plan) i t → IsAt (planned soc plan) j u → Meet t u c →
    limits.power ≡ Some most → least_power limits a + least_power limits b ≤ most
over_limit soc limits plan sound good i j c most a b t u p q less at at' meet is =
    let within : power_at limits (planned soc plan) c ≤ most = rw is at (good Power c) in
    let sum : power_at limits (planned soc plan) c ≡ sum_by (λ t. if is_active c t then power_of limits t (c - t.start) else 0) (planned soc plan) = sum_by-filter (is_active c) (λ t. power_of limits t (c - t.start)) (planned soc plan) in
    let two = two-le-sum_by (λ t. if is_active c t then power_of limits t (c - t.start) else 0) (planned soc plan) i j t u less at at' in
    omega (arith, active_draw soc limits a t c sound p meet.0, active_draw soc limits b u c sound q meet.1)

-- ---- every reason keeps them apart

busy : (soc : SocValue) (limits : LimitsValue) (plan : PlanValue) → IsGood soc limits plan → (i j c : ℕ) (t u : PlannedTest) → i ≢ j → IsAt (planned soc plan) i t → IsAt (planned soc plan) j u → t.place ≡ u.place → Meet t u c → ⊥
busy soc limits plan good i j c t u differ at at' same meet = elim (cases_lt i j) [
  | inl less ↦ good Busy i j c t u (record { first = at; second = at'; order = less; related = same; meet = meet })
  | inr greater ↦ good Busy j i c u t (record { first = at'; second = at; order = omega (arith, differ); related = sym same; meet = (meet.1, meet.0) })
]

kin : (soc : SocValue) (limits : LimitsValue) (plan : PlanValue) → IsGood soc limits plan → (i j c : ℕ) (t u : PlannedTest) → IsAt (planned soc plan) i t → IsAt (planned soc plan) j u → IsParent soc.modules t.place u.place → Meet t u c → ⊥
kin soc limits plan good i j c t u at at' is meet =
    let earlier : t.place < u.place = is.earlier in
    good Parents i j c t u (record { first = at; second = at'; order = planned_in_order soc plan i j t u at at' earlier; related = is; meet = meet })

for_reason : (soc : SocValue) (limits : LimitsValue) (plan : PlanValue) → IsSoundLimits soc limits → IsGood soc limits plan → (i j c : ℕ) (a b : LiveTest) (t u : PlannedTest) → i ≢ j → IsPlan a t → IsPlan b u → Reason soc limits i j a b →
    IsAt (planned soc plan) i t → IsAt (planned soc plan) j u → Meet t u c → ⊥
for_reason soc limits plan sound good i j c a b t u differ p q (OneModule same) at at' meet = busy soc limits plan good i j c t u differ at at' (p.place ∙ same ∙ sym q.place) meet
for_reason soc limits plan sound good i j c a b t u differ p q (IsParentOf is) at at' meet = kin soc limits plan good i j c t u at at' (rw (p.place, q.place) is) meet
for_reason soc limits plan sound good i j c a b t u differ p q (IsChildOf is) at at' meet = kin soc limits plan good j i c u t at' at (rw (p.place, q.place) is) (meet.1, meet.0)
for_reason soc limits plan sound good i j c a b t u differ p q (ComesBefore path) at at' meet = omega (arith, path_order soc limits plan good i j t u path at at', meet.0, meet.1)
for_reason soc limits plan sound good i j c a b t u differ p q (ComesAfter path) at at' meet = omega (arith, path_order soc limits plan good j i u t path at' at, meet.0, meet.1)
for_reason soc limits plan sound good i j c a b t u differ p q (TooMuchPower most is much) at at' meet = elim (cases_lt i j) [
  | inl less ↦ omega (arith, over_limit soc limits plan sound good i j c most a b t u p q less at at' meet is)
  | inr greater ↦ omega (arith, over_limit soc limits plan sound good j i c most b a u t q p (omega (arith, differ)) at' at (meet.1, meet.0) is)
]

pub never_together : (soc : SocValue) (limits : LimitsValue) (plan : PlanValue) (i j c : ℕ) (t u : PlannedTest) → IsSoundLimits soc limits → IsGood soc limits plan → Excludes soc limits i j → IsAt (planned soc plan) i t → IsAt (planned soc plan) j u → Meet t u c → ⊥
never_together soc limits plan i j c t u sound good e at at' meet =
    for_reason soc limits plan sound good i j c e.first e.second t u e.differ (plan_of_live soc plan i e.first t e.first_at at) (plan_of_live soc plan j e.second u e.second_at at') e.reason at at' meet
