-- What the lists of a proof bound: tests that never run together, crowds under the limit of power, and powers.
use Rattle.std.proofs.Common.{div-mul-le_self, le_of_mul-le-mul_right, add-mul, ◌≡◌, ℕ, ◌+◌, ◌*◌, ◌/◌, ◌≤◌, ◌<◌, Bool, true, false, Some, List, [], ◌∷◌, length, refl, ap, ◌∙◌, arith, inl, inr, ◌⊎◌, zero, suc, get_or, take, sym, ◌-◌, Option, None, MatchOption, map, mul-le-mul_right, slice_get, ◌&&◌, if◌then◌else◌, ◌||◌, IsTrue, sum_by, sum}
use Rattle.std.proofs.lemmas.Bool.{cases_Bool, cases_order, and_parts, or_cases, false_from_ne_true, cases_lt, lt-ltb, le-ltb}
use Rattle.std.proofs.lemmas.List.Sums.{sum_by-cons, AllPass-from_list_all}
use Rattle.std.proofs.lemmas.Option.{slice_get-map}
use Rattle.soc_model.specs.Chips.{SocValue, LiveTest, live_tests, same_test, id_of}
use Rattle.plan_model.specs.Plans.{PlanValue, LimitsValue, PlannedTest, planned, planned_test, is_active, end_of, bus_place, IsActive, of_first, power_of, power_of_id}
use Rattle.plan_model.specs.Right.{IsAt}
use Rattle.plan_model.specs.Rules.{IsGood, Each, Wires, Power}
use Rattle.plan_model.specs.Bounds.{sum_below}
use Rattle.plan_model.proofs.Sums.{one_if, sum_by-le_at, at_most_one, sum_by-filter}
use Rattle.plan_model.proofs.SumsOverCycles.{while_active, sum_while_active, sum_below-sum_by, sum_below-le, sum_below-one, active_is}
use Rattle.plan_model.proofs.TurnBounds.{plan_of, end-le-cycles}
use Rattle.std.proofs.lemmas.List.Elements.{All-contains}
use Rattle.soc_model.specs.declared.TestId.{TestId}
use Rattle.soc_model.specs.SoundChips.{IsSoundChip}
use Rattle.plan_model.proofs.CertificatesAreBounds.{same_test_is}
use Rattle.plan_model.proofs.Lists.{at_contains}
use Rattle.plan_model.proofs.TestsInGoodPlans.{planned_tam}
use Rattle.proof_facts.specs.Exclusions.{excludes, least_power}
use Rattle.leaf_bounds.specs.Lists.{is_among, names_exclude, IsTurn, excludes_all, is_beside, least_together, least_power_of, IsCrowd, counted, power_use, IsNear}
use Rattle.common_lemmas.proofs.Lists.{any_at, sum_map}
use Rattle.proof_facts.specs.Packed.{rising}
use Rattle.proof_facts.proofs.Rising.{AllAtLeast, Rises, rising-rises, sum_by-rising, length-rising}
use Rattle.std.proofs.lemmas.List.{length-map}
use Rattle.plan_model.specs.Certificates.{is_called}
use Rattle.leaf_bounds.proofs.TestNames.{one_place, place_is}

-- ==== sums over tests of their times, counted cycle by cycle

-- ---- live tests as they are planned

pub planned_at : (soc : SocValue) (plan : PlanValue) (i : ℕ) {l : LiveTest} → slice_get (live_tests soc) i ≡ Some l → IsAt (planned soc plan) i (plan_of plan l)
unfolding planned
planned_at soc plan i {l} at = slice_get-map (λ (l : LiveTest). planned_test plan l.place l.core l.test) (live_tests soc) i ∙ rw at refl

-- the cycles that a live test takes
abbrev pub time_of : PlanValue → LiveTest → ℕ
time_of plan l = length (plan_of plan l).operations

pub ends : (soc : SocValue) (limits : LimitsValue) (plan : PlanValue) → IsGood soc limits plan → (i : ℕ) (l : LiveTest) → slice_get (live_tests soc) i ≡ Some l → end_of (plan_of plan l) ≤ plan.cycles
ends soc limits plan good i l at = end-le-cycles soc limits plan good i (plan_of plan l) (planned_at soc plan i at)

-- ---- counted cycle by cycle

-- where at each cycle at most `most` of those that pass are active, their times together are at most `most` times the cycles
pub few_bound : {X : Type 0} (q : X → Bool) (t : X → PlannedTest) (xs : List X) (n most : ℕ) → ((c : ℕ) → c < n → sum_by (λ x. one_if (q x && is_active c (t x))) xs ≤ most) →
    ((i : ℕ) (x : X) → slice_get xs i ≡ Some x → end_of (t x) ≤ n) → sum_by (λ x. if q x then length (t x).operations else 0) xs ≤ n * most
few_bound {X} q t xs n most few within =
    let swap = sum_below-sum_by (λ x c. one_if (q x && is_active c (t x))) xs n in
    let all = sum_below-le (λ c. sum_by (λ x. one_if (q x && is_active c (t x))) xs) most n few in
    let times =
    sum_by-le_at (λ x. if q x then length (t x).operations else 0) (λ x. sum_below (λ c. one_if (q x && is_active c (t x))) n) xs (λ i x at. each x (within i x at) (cases_Bool (q x))) in
    omega arith
  where
    each : (x : X) → end_of (t x) ≤ n → (q x ≡ true) ⊎ (q x ≡ false) → (if q x then length (t x).operations else 0) ≤ sum_below (λ c. one_if (q x && is_active c (t x))) n
    each x within (inl yes') =
        rw yes' (omega (arith, sum_while_active (λ c. 1) (t x) n within ∙ sum_below-one (length (t x).operations)))
    each x within (inr no') = rw no' (omega arith)

-- ---- quotients

-- quotients rounded down, together
quotients-le : {X : Type 0} (a : X → ℕ) (p : ℕ) (xs : List X) → sum_by (λ x. a x / p) xs * p ≤ sum_by a xs
quotients-le a p [] = omega arith
quotients-le a p (x ∷ xs) =
    let here = div-mul-le_self (a x) p in
    let split = sum_by-cons (λ x. a x / p) x xs in
    omega (arith, here, quotients-le a p xs, add-mul (a x / p) (sum_by (λ x. a x / p) xs) p, ap (λ v. v * p) split, sum_by-cons a x xs)

-- where at each cycle what the active ones give is at most `most`, the quotients of what they give in all are at most the cycles
pub quotients_bound : {X : Type 0} (h : X → ℕ → ℕ) (t : X → PlannedTest) (xs : List X) (n most : ℕ) → 1 ≤ most → ((c : ℕ) → c < n → sum_by (λ x. while_active (h x) (t x) c) xs ≤ most) →
    ((i : ℕ) (x : X) → slice_get xs i ≡ Some x → end_of (t x) ≤ n) → sum_by (λ x. sum_below (h x) (length (t x).operations) / most) xs ≤ n
quotients_bound {X} h t xs n most some few within =
    let swap = sum_below-sum_by (λ x c. while_active (h x) (t x) c) xs n in
    let all = sum_below-le (λ c. sum_by (λ x. while_active (h x) (t x) c) xs) most n few in
    let times = sum_by-le_at (λ x. sum_below (h x) (length (t x).operations)) (λ x. sum_below (while_active (h x) (t x)) n) xs (λ i x at. each x (within i x at)) in
    let parts = quotients-le (λ x. sum_below (h x) (length (t x).operations)) most xs in
    let few' : sum_by (λ x. sum_below (h x) (length (t x).operations) / most) xs * most ≤ n * most = omega (arith, swap, all, times, parts) in
    le_of_mul-le-mul_right few' (omega arith)
  where
    each : (x : X) → end_of (t x) ≤ n → sum_below (h x) (length (t x).operations) ≤ sum_below (while_active (h x) (t x)) n
    each x within = omega (arith, sum_while_active (h x) (t x) n within)

-- ==== lists of tests by name, and the uses of lists of which no two tests are ever active together

-- ---- names

pub at_take : {X : Type 0} (xs : List X) (n m : ℕ) → n < m → slice_get (take m xs) n ≡ slice_get xs n
at_take [] n zero h = absurd (omega arith)
at_take [] n (suc m) h = refl
at_take (x ∷ xs) n zero h = absurd (omega arith)
at_take (x ∷ xs) zero (suc m) h = refl
at_take (x ∷ xs) (suc n) (suc m) h = at_take xs n m (omega arith)

-- where the name stands in a list
pub among_at : (tests : List TestId) (l : LiveTest) → is_among tests l ≡ true → (n : ℕ) × (slice_get tests n ≡ Some (id_of l))
among_at tests l h =
    let r = any_at (same_test (id_of l)) tests h in
    (r.0, r.2 ∙ ap Some (sym (same_test_is (id_of l) r.1 r.3)))

-- ---- tests that take turns

module _ (soc : SocValue) (limits : LimitsValue) where
  -- the live tests at two places are never active together where a test says that they exclude each other
  abbrev pub NeverMeet : PlanValue → Type 0
  NeverMeet plan = (i j c : ℕ) (a b : LiveTest) → slice_get (live_tests soc) i ≡ Some a → slice_get (live_tests soc) j ≡ Some b → excludes soc limits i j ≡ true → IsActive (plan_of plan a) c → IsActive (plan_of plan b) c → ⊥

  -- tests that exclude each other by name are never active together
  names_never : (plan : PlanValue) → IsSoundChip soc → NeverMeet plan → (i j c : ℕ) {a b : LiveTest} → slice_get (live_tests soc) i ≡ Some a →
      slice_get (live_tests soc) j ≡ Some b → names_exclude soc limits (id_of a) (id_of b) ≡ true → IsActive (plan_of plan a) c → IsActive (plan_of plan b) c → ⊥
  names_never plan sound never i j c {a} {b} at at' h active active' =
      never i j c a b at at' (rw ((place_is sound i at), (place_is sound j at')) at h) active active'

  -- of two names of a list the later excludes the earlier
  later_excludes : (tests : List TestId) → Each (IsTurn soc limits) tests → (n m : ℕ) {x y : TestId} → slice_get tests n ≡ Some x → slice_get tests m ≡ Some y → n < m →
      names_exclude soc limits y x ≡ true
  later_excludes tests keeps n m {x} {y} at at' less = (keeps m y at').apart x (at_contains (take m tests) n x (at_take tests n m less ∙ at))

  -- two live tests of the list, at different places
  turns_never : (plan : PlanValue) → IsSoundChip soc → NeverMeet plan → (tests : List TestId) → Each (IsTurn soc limits) tests → (i j c : ℕ) (a b : LiveTest) → i < j →
      slice_get (live_tests soc) i ≡ Some a → slice_get (live_tests soc) j ≡ Some b → is_among tests a ≡ true → is_among tests b ≡ true → IsActive (plan_of plan a) c →
      IsActive (plan_of plan b) c → ⊥
  turns_never plan sound never tests keeps i j c a b order at at' in' in'' active active' =
      let n = among_at tests a in' in
      let m = among_at tests b in'' in
      by_order n.0 m.0 n.1 m.1 (cases_order n.0 m.0)
    where
      by_order : (n m : ℕ) → slice_get tests n ≡ Some (id_of a) → slice_get tests m ≡ Some (id_of b) → (n ≡ m) ⊎ ((n < m) ⊎ (m < n)) → ⊥
      by_order n m here there (inl same) =
          let there' : slice_get tests n ≡ Some (id_of b) = rw same there in
          let one : id_of a ≡ id_of b = cc in
          let wrong = one_place sound i j a b at at' one in
          omega arith
      by_order n m here there (inr (inl less)) = names_never plan sound never j i c at' at (later_excludes tests keeps n m here there less) active' active
      by_order n m here there (inr (inr more)) = names_never plan sound never i j c at at' (later_excludes tests keeps m n there here more) active active'

-- ---- with the tests of a bus

planned_bus : (plan : PlanValue) (l : LiveTest) → (plan_of plan l).bus ≡ bus_place l.core.number 0 plan.buses
unfolding planned_test
planned_bus plan l = refl

-- `on` says for a live test on the bus of which rank it is: tests over the wires that are on one rank are on one bus
abbrev pub OneBus : SocValue → PlanValue → (LiveTest → ℕ → Bool) → Type 0
OneBus soc plan on = (i j rank : ℕ) (a b : LiveTest) → slice_get (live_tests soc) i ≡ Some a → slice_get (live_tests soc) j ≡ Some b → a.test.tam ≡ true → b.test.tam ≡ true → on a rank ≡ true → on b rank ≡ true →
    bus_place a.core.number 0 plan.buses ≡ bus_place b.core.number 0 plan.buses

module _ (soc : SocValue) (limits : LimitsValue) (plan : PlanValue) where
  pub bus_never : IsGood soc limits plan → (i j c : ℕ) {a b : LiveTest} → i < j → slice_get (live_tests soc) i ≡ Some a → slice_get (live_tests soc) j ≡ Some b →
      a.test.tam ≡ true → b.test.tam ≡ true → bus_place a.core.number 0 plan.buses ≡ bus_place b.core.number 0 plan.buses → IsActive (plan_of plan a) c →
      IsActive (plan_of plan b) c → ⊥
  bus_never good i j c {a} {b} order at at' tam tam' same active active' =
      good Wires i j c (plan_of plan a) (plan_of plan b) (record {
        first = planned_at soc plan i at;
        second = planned_at soc plan j at';
        order = order;
        related = (wired a tam, wired b tam', planned_bus plan a ∙ same ∙ sym (planned_bus plan b));
        meet = (active, active');
      })
    where
      wired : (l : LiveTest) → l.test.tam ≡ true → IsTrue (plan_of plan l).tam
      wired l tam = planned_tam plan l.place l.core l.test ∙ tam

  -- a test that excludes all of the list, and one of the list
  beside_never : IsSoundChip soc → NeverMeet soc limits plan → (tests : List TestId) (i j c : ℕ) {a b : LiveTest} → slice_get (live_tests soc) i ≡ Some a →
      slice_get (live_tests soc) j ≡ Some b → excludes_all soc limits tests a ≡ true → is_among tests b ≡ true → IsActive (plan_of plan a) c → IsActive (plan_of plan b) c →
      ⊥
  beside_never sound never tests i j c {a} {b} at at' all in' active active' =
      let m = among_at tests b in' in
      let each = AllPass-from_list_all (names_exclude soc limits (id_of a)) tests all in
      names_never soc limits plan sound never i j c at at' (All-contains (λ (x : TestId). names_exclude soc limits (id_of a) x ≡ true) tests (id_of b) each (at_contains tests m.0 (id_of b) m.1)) active active'

  -- ---- uses

  -- where no two that pass are ever active together, their times are at most the cycles
  pub never_bound : IsGood soc limits plan → (q : LiveTest → Bool) →
      ((i j c : ℕ) (a b : LiveTest) → i < j → slice_get (live_tests soc) i ≡ Some a → slice_get (live_tests soc) j ≡ Some b → q a ≡ true → q b ≡ true → IsActive (plan_of plan a) c → IsActive (plan_of plan b) c → ⊥) →
      sum_by (λ l. if q l then time_of plan l else 0) (live_tests soc) ≤ plan.cycles
  never_bound good q never =
      let all : sum_by (λ l. if q l then time_of plan l else 0) (live_tests soc) ≤ plan.cycles * 1 = few_bound q (plan_of plan) (live_tests soc) plan.cycles 1
      (λ c less. at_most_one (λ l. q l && is_active c (plan_of plan l)) (live_tests soc) (λ i j a b order at at' p p'.
      let x = and_parts (q a) (is_active c (plan_of plan a)) p in
      let y = and_parts (q b) (is_active c (plan_of plan b)) p' in
      never i j c a b order at at' x.0 y.0 (active_is c (plan_of plan a) x.1) (active_is c (plan_of plan b) y.1)))
      (ends soc limits plan good) in
      omega arith

  pub turns_fit : IsSoundChip soc → IsGood soc limits plan → NeverMeet soc limits plan → (tests : List TestId) → Each (IsTurn soc limits) tests →
      sum_by (λ l. if is_among tests l then time_of plan l else 0) (live_tests soc) ≤ plan.cycles
  turns_fit sound good never tests keeps = never_bound good (is_among tests) (turns_never soc limits plan sound never tests keeps)

  pub turns_on_fit : IsSoundChip soc → IsGood soc limits plan → NeverMeet soc limits plan → (on : LiveTest → ℕ → Bool) → OneBus soc plan on →
      (rank : ℕ) (tests : List TestId) → Each (IsTurn soc limits) tests →
      sum_by (λ l. if is_among tests l || is_beside soc limits (on l) rank tests l then time_of plan l else 0) (live_tests soc) ≤ plan.cycles
  turns_on_fit sound good never on one_bus rank tests keeps =
      never_bound good (λ l. is_among tests l || is_beside soc limits (on l) rank tests l) (λ i j c a b order at at' p p' active active'.
      by i j c a b order at at' (or_cases (is_among tests a) (is_beside soc limits (on a) rank tests a) p) (or_cases (is_among tests b) (is_beside soc limits (on b) rank tests b) p') active active')
    where
      beside : (l : LiveTest) → is_beside soc limits (on l) rank tests l ≡ true → (l.test.tam ≡ true) × (on l rank ≡ true) × (excludes_all soc limits tests l ≡ true)
      beside l h =
          let x = and_parts l.test.tam (on l rank && excludes_all soc limits tests l) h in
          let y = and_parts (on l rank) (excludes_all soc limits tests l) x.1 in
          (x.0, y.0, y.1)

      by : (i j c : ℕ) (a b : LiveTest) → i < j → slice_get (live_tests soc) i ≡ Some a → slice_get (live_tests soc) j ≡ Some b →
          (is_among tests a ≡ true) ⊎ (is_beside soc limits (on a) rank tests a ≡ true) → (is_among tests b ≡ true) ⊎ (is_beside soc limits (on b) rank tests b ≡ true) → IsActive (plan_of plan a) c → IsActive (plan_of plan b) c → ⊥
      by i j c a b order at at' (inl x) (inl y) active active' = turns_never soc limits plan sound never tests keeps i j c a b order at at' x y active active'
      by i j c a b order at at' (inl x) (inr y) active active' = beside_never sound never tests j i c at' at (beside b y).2 x active' active
      by i j c a b order at at' (inr x) (inl y) active active' = beside_never sound never tests i j c at at' (beside a x).2 y active active'
      by i j c a b order at at' (inr x) (inr y) active active' =
          bus_never good i j c order at at' (beside a x).0 (beside b y).0 (one_bus i j rank a b at at' (beside a x).0 (beside b y).0 (beside a x).1 (beside b y).1) active active'

-- ==== the least of some numbers, together: how a threshold bounds them, and how they bound any as many of the numbers

-- ---- a threshold

nothing_above : (v : ℕ) (xs : List ℕ) → AllAtLeast v xs → sum_by (λ x. v - x) xs ≡ 0
nothing_above v [] a = refl
nothing_above v (x ∷ xs) a = omega (arith, sum_by-cons (λ x. v - x) x xs, nothing_above v xs a.1, a.0)

-- an item of a rising list is no less than the first
first-le : (x : ℕ) (xs : List ℕ) (m : ℕ) → m < length xs → AllAtLeast x xs → x ≤ get_or xs m 0
first-le x [] m h a = absurd (omega arith)
first-le x (y ∷ xs) zero h a = a.0
first-le x (y ∷ xs) (suc m) h a = first-le x xs m (omega arith) a.1

-- the item at place m as the threshold
threshold_at : (xs : List ℕ) (m : ℕ) → m < length xs → Rises xs → sum (take (suc m) xs) + sum_by (λ x. get_or xs m 0 - x) xs ≡ suc m * get_or xs m 0
threshold_at [] m h r = absurd (omega arith)
threshold_at (x ∷ xs) zero h r = omega (arith, sum_by-cons (λ y. x - y) x xs, sum_by-cons (λ y. y) x [], nothing_above x xs r.0)
threshold_at (x ∷ xs) (suc m) h r =
    let ih = threshold_at xs m (omega arith) r.1 in
    let more : suc (suc m) * get_or xs m 0 ≡ get_or xs m 0 + suc m * get_or xs m 0 = omega arith in
    omega (arith, sum_by-cons (λ y. get_or xs m 0 - y) x xs, sum_by-cons (λ y. y) x (take (suc m) xs), ih, first-le x xs m (omega arith) r.0, more)

-- a threshold below which the numbers fall short by what the least together do
pub threshold : (n : ℕ) (xs : List ℕ) → n < length xs → (v : ℕ) × (least_together (n + 1) xs + sum_by (λ x. v - x) xs ≡ (n + 1) * v)
threshold n xs h =
    let long = length-rising xs in
    let at = threshold_at (rising xs) n (omega arith) (rising-rises xs) in
    let one : n + 1 ≡ suc n = omega arith in
    (get_or (rising xs) n 0, rw one (omega (arith, at, sum_by-rising (λ x. get_or (rising xs) n 0 - x) xs)))

-- ==== crowds: how many tests of a list can be active together under the limit of power

-- ---- the power of live tests at a cycle

-- what a live test draws at a cycle
abbrev pub draw_of : LimitsValue → LiveTest → ℕ → ℕ
draw_of limits l r = power_of_id limits (id_of l) l.test.power r

planned_draw : (plan : PlanValue) (limits : LimitsValue) (c : ℕ) (l : LiveTest) → while_active (power_of limits (plan_of plan l)) (plan_of plan l) c ≡ while_active (draw_of limits l) (plan_of plan l) c
unfolding planned_test
planned_draw plan limits c l = refl

-- all live tests that are active draw at most the limit
pub draws-le : (soc : SocValue) (limits : LimitsValue) (plan : PlanValue) → IsGood soc limits plan → {limit : ℕ} → limits.power ≡ Some limit → (c : ℕ) →
    sum_by (λ l. while_active (draw_of limits l) (plan_of plan l) c) (live_tests soc) ≤ limit
unfolding planned
draws-le soc limits plan good {limit} is c =
    let within : sum_by (λ t. while_active (power_of limits t) t c) (planned soc plan) ≤ limit = rw sum_by-filter at (rw is at (good Power c)) in
    let same : sum_by (λ l. while_active (draw_of limits l) (plan_of plan l) c) (live_tests soc) ≤ sum_by (λ l. while_active (power_of limits (plan_of plan l)) (plan_of plan l) c) (live_tests soc) =
    sum_by-le_at (λ l. while_active (draw_of limits l) (plan_of plan l) c) (λ l. while_active (power_of limits (plan_of plan l)) (plan_of plan l) c) (live_tests soc) (λ i l at. omega (arith, planned_draw plan limits c l)) in
    omega (arith, within, sum_map (λ t. while_active (power_of limits t) t c) (plan_of plan) (live_tests soc), same)

-- ---- sums over live tests and over names

-- the live tests of one name are one
abbrev NamesDiffer : List LiveTest → Type 0
NamesDiffer ls = (i j : ℕ) (a b : LiveTest) → slice_get ls i ≡ Some a → slice_get ls j ≡ Some b → id_of a ≡ id_of b → i ≡ j

module _ (id : TestId) (g : LiveTest → ℕ) where
  no_more : (ls : List LiveTest) → ((j : ℕ) (b : LiveTest) → slice_get ls j ≡ Some b → id_of b ≡ id → ⊥) → sum_by (λ l. if is_called id l then g l else 0) ls ≡ 0
  no_more [] h = refl
  no_more (l ∷ ls) h =
      let here : is_called id l ≡ false = false_from_ne_true (is_called id l) (λ e. h 0 l refl (same_test_is (id_of l) id e)) in
      let ih = no_more ls (λ j b at. h (suc j) b at) in
      sum_by-cons (λ l. if is_called id l then g l else 0) l ls ∙ rw here (omega arith)

  -- what the live tests of a name give is what the first one gives
  called_once : (ls : List LiveTest) → NamesDiffer ls → sum_by (λ l. if is_called id l then g l else 0) ls ≤ of_first (is_called id) g 0 ls
  called_once [] differ = omega arith
  called_once (l ∷ ls) differ =
      let split = sum_by-cons (λ l. if is_called id l then g l else 0) l ls in
      rw split (go (called_once ls (λ i j a b at at' same. let e = differ (suc i) (suc j) a b at at' same in omega arith)) (cases_Bool (is_called id l)))
    where
      go : sum_by (λ l. if is_called id l then g l else 0) ls ≤ of_first (is_called id) g 0 ls → (is_called id l ≡ true) ⊎ (is_called id l ≡ false) → (if is_called id l then g l else 0) + sum_by (λ l. if is_called id l then g l else 0) ls ≤ of_first (is_called id) g 0 (l ∷ ls)
      go ih (inl yes') =
          let here = same_test_is (id_of l) id yes' in
          let none : sum_by (λ l. if is_called id l then g l else 0) ls ≡ 0 = no_more ls (λ j b at same. absurd (omega (arith, differ 0 (suc j) l b refl at (here ∙ sym same)))) in
          rw yes' (omega (arith, none))
      go ih (inr no') = rw no' (omega (arith, ih))

-- the live tests that a list names give at most what its names give
among_bound : (g : LiveTest → ℕ) (ls : List LiveTest) → NamesDiffer ls → (tests : List TestId) → sum_by (λ l. if is_among tests l then g l else 0) ls ≤ sum_by (λ id. of_first (is_called id) g 0 ls) tests
among_bound g ls differ [] = omega (arith, zeros ls)
  where
    zeros : (xs : List LiveTest) → sum_by (λ (l : LiveTest). 0) xs ≡ 0
    zeros [] = refl
    zeros (x ∷ xs) =
        let ih = zeros xs in
        let split = sum_by-cons (λ (l : LiveTest). 0) x xs in
        omega arith
among_bound g ls differ (id ∷ tests) =
    omega (arith, called_once id g ls differ, among_bound g ls differ tests, sum_by-cons (λ id. of_first (is_called id) g 0 ls) id tests, parted ls)
  where
    each : (a b : Bool) (n : ℕ) → (if a || b then n else 0) ≤ (if a then n else 0) + (if b then n else 0)
    each true b n = omega arith
    each false b n = omega arith

    parted : (xs : List LiveTest) → sum_by (λ l. if is_among (id ∷ tests) l then g l else 0) xs ≤ sum_by (λ l. if is_called id l then g l else 0) xs + sum_by (λ l. if is_among tests l then g l else 0) xs
    parted [] = omega arith
    parted (x ∷ xs) =
        let here = each (is_called id x) (is_among tests x) (g x) in
        let ih = parted xs in
        omega (arith, here, ih, sum_by-cons (λ l. if is_among (id ∷ tests) l then g l else 0) x xs, sum_by-cons (λ l. if is_called id l then g l else 0) x xs, sum_by-cons (λ l. if is_among tests l then g l else 0) x xs)

-- ---- at most `most` at one cycle

-- each that passes and how far it falls short of a number give at least that number
short-le : (p : LiveTest → Bool) (g : LiveTest → ℕ) (v : ℕ) (ls : List LiveTest) → sum_by (λ l. one_if (p l)) ls * v ≤ sum_by (λ l. if p l then g l else 0) ls + sum_by (λ l. if p l then v - g l else 0) ls
short-le p g v [] = omega arith
short-le p g v (l ∷ ls) =
    let ih = short-le p g v ls in
    let here : one_if (p l) * v ≤ (if p l then g l else 0) + (if p l then v - g l else 0) = elim (cases_Bool (p l)) [ inl yes' ↦ rw yes' (omega arith) | inr no' ↦ rw no' (omega arith) ] in
    let count = ap (λ n. n * v) (sum_by-cons (λ l. one_if (p l)) l ls) in
    let product = add-mul (one_if (p l)) (sum_by (λ l. one_if (p l)) ls) v in
    omega (arith, ih, here, count, product, sum_by-cons (λ l. if p l then g l else 0) l ls, sum_by-cons (λ l. if p l then v - g l else 0) l ls)

-- what falls short, by the first of a name
first_short : (id : TestId) (g : LiveTest → ℕ) (v : ℕ) (ls : List LiveTest) → of_first (is_called id) (λ l. v - g l) 0 ls ≤ v - of_first (is_called id) g 0 ls
first_short id g v [] = omega arith
first_short id g v (l ∷ ls) = elim (cases_Bool (is_called id l)) [
  | inl yes' ↦ rw yes' (omega arith)
  | inr no' ↦ rw no' (first_short id g v ls)
]

-- each live test draws at least its least power at any cycle
abbrev pub LeastDraws : SocValue → LimitsValue → Type 0
LeastDraws soc limits = (i : ℕ) (l : LiveTest) → slice_get (live_tests soc) i ≡ Some l → (r : ℕ) → least_power limits l ≤ draw_of limits l r

module _ {soc : SocValue} (limits : LimitsValue) (plan : PlanValue) (sound : IsSoundChip soc) (good : IsGood soc limits plan) (draws : LeastDraws soc limits) (most : ℕ) (tests : List TestId) where
  crowd_at : {limit : ℕ} → most < length tests → limits.power ≡ Some limit → limit < least_together (most + 1) (map (least_power_of soc limits) tests) → (c : ℕ) →
      sum_by (λ l. one_if (is_among tests l && is_active c (plan_of plan l))) (live_tests soc) ≤ most
  crowd_at {limit} many is heavy c = elim (cases_lt most (sum_by (λ l. one_if (is_among tests l && is_active c (plan_of plan l))) (live_tests soc))) [
    | inr few ↦ few
    | inl more ↦
        let t = threshold most (map (least_power_of soc limits) tests) (omega (arith, length-map tests (least_power_of soc limits))) in
        absurd (too_much t.0 t.1 more)
  ]
    where
      here : LiveTest → Bool
      here l = is_among tests l && is_active c (plan_of plan l)

      drawn : (l : LiveTest) (i : ℕ) → slice_get (live_tests soc) i ≡ Some l → (a b : Bool) → (if a && b then least_power limits l else 0) ≤ (if b then draw_of limits l (c - (plan_of plan l).start) else 0)
      drawn l i at true true = draws i l at (c - (plan_of plan l).start)
      drawn l i at true false = omega arith
      drawn l i at false b = omega arith

      fewer : (a b : Bool) (n : ℕ) → (if a && b then n else 0) ≤ (if a then n else 0)
      fewer true true n = omega arith
      fewer true false n = omega arith
      fewer false b n = omega arith

      too_much : (v : ℕ) → least_together (most + 1) (map (least_power_of soc limits) tests) + sum_by (λ x. v - x) (map (least_power_of soc limits) tests) ≡ (most + 1) * v →
          most < sum_by (λ l. one_if (is_among tests l && is_active c (plan_of plan l))) (live_tests soc) → ⊥
      too_much v at more =
          let some : (most + 1) * v ≤ sum_by (λ l. one_if (is_among tests l && is_active c (plan_of plan l))) (live_tests soc) * v = mul-le-mul_right v (omega arith) in
          let short = short-le (λ l. is_among tests l && is_active c (plan_of plan l)) (least_power limits) v (live_tests soc) in
          let power =
          sum_by-le_at (λ l. if is_among tests l && is_active c (plan_of plan l) then least_power limits l else 0) (λ l. while_active (draw_of limits l) (plan_of plan l) c) (live_tests soc) (λ i l at. drawn l i at (is_among tests l) (is_active c (plan_of plan l))) in
          let within = draws-le soc limits plan good is c in
          let all =
          sum_by-le_at (λ l. if is_among tests l && is_active c (plan_of plan l) then v - least_power limits l else 0) (λ l. if is_among tests l then v - least_power limits l else 0) (live_tests soc) (λ i l at. fewer (is_among tests l) (is_active c (plan_of plan l)) (v - least_power limits l)) in
          let named = among_bound (λ l. v - least_power limits l) (live_tests soc) (one_place sound) tests in
          let firsts =
          sum_by-le_at (λ id. of_first (is_called id) (λ l. v - least_power limits l) 0 (live_tests soc)) (λ id. v - least_power_of soc limits id) tests (λ i id at. first_short id (least_power limits) v (live_tests soc)) in
          omega (arith, heavy, at, some, short, power, within, all, named, firsts, sum_map (λ x. v - x) (least_power_of soc limits) tests)

  pub crowd_fits : IsCrowd soc limits most tests → sum_by (λ l. if is_among tests l then time_of plan l else 0) (live_tests soc) ≤ plan.cycles * most
  crowd_fits crowd = go limits.power refl crowd.heavy
    where
      go : (o : Option ℕ) → limits.power ≡ o → MatchOption o ⊥ (λ limit. limit < least_together (most + 1) (map (least_power_of soc limits) tests)) → sum_by (λ l. if is_among tests l then time_of plan l else 0) (live_tests soc) ≤ plan.cycles * most
      go None is heavy = absurd heavy
      go (Some limit) is heavy =
          few_bound (is_among tests) (plan_of plan) (live_tests soc) plan.cycles most (λ c less. crowd_at crowd.many is heavy c) (ends soc limits plan good)

-- ==== powers as they count: those that are together within the limit count together at most as the limit

-- ---- one power

module _ (limit near p : ℕ) where
  -- a small one counts for nothing
  small_counts : 2 * near ≤ limit → p < near → counted limit near p ≡ 0
  small_counts half small = rw (le-ltb limit (p + near) (omega arith), lt-ltb p near small) refl

  -- one near the limit counts for all of it
  near_counts : limit < p + near → counted limit near p ≡ limit
  near_counts h = rw (lt-ltb limit (p + near) h) refl

  -- any other for no more than it is
  else_counts : p + near ≤ limit → counted limit near p ≤ p
  else_counts h = elim (cases_lt p near) [
    | inl small ↦ rw (le-ltb limit (p + near) h, lt-ltb p near small) (omega arith)
    | inr large ↦ rw (le-ltb limit (p + near) h, le-ltb p near large) (omega arith)
  ]

-- ---- powers together

small_together : {X : Type 0} (limit near : ℕ) (g : X → ℕ) (xs : List X) → 2 * near ≤ limit → sum_by g xs < near → sum_by (λ x. counted limit near (g x)) xs ≡ 0
small_together limit near g [] half small = refl
small_together limit near g (x ∷ xs) half small =
    let split = sum_by-cons g x xs in
    let here = small_counts limit near (g x) half (omega arith) in
    omega (arith, here, small_together limit near g xs half (omega arith), sum_by-cons (λ x. counted limit near (g x)) x xs)

-- what counts is no more than there is, or it is the limit since one is near to it
abbrev Count : (limit near total counts : ℕ) → Type 0
Count limit near total counts = (counts ≤ total) ⊎ ((counts ≡ limit) × (limit < total + near))

counts_together : {X : Type 0} (limit near : ℕ) (g : X → ℕ) (xs : List X) → 2 * near ≤ limit → sum_by g xs ≤ limit → Count limit near (sum_by g xs) (sum_by (λ x. counted limit near (g x)) xs)
counts_together limit near g [] half within = inl (omega arith)
counts_together {X} limit near g (x ∷ xs) half within =
    let split = sum_by-cons g x xs in
    let split' = sum_by-cons (λ x. counted limit near (g x)) x xs in
    go (g x) (sum_by g xs) (sum_by g (x ∷ xs)) (counted limit near (g x)) (sum_by (λ x. counted limit near (g x)) xs) (sum_by (λ x. counted limit near (g x)) (x ∷ xs)) split split' within
    (near_counts limit near (g x)) (else_counts limit near (g x)) (small_counts limit near (g x) half) (small_together limit near g xs half) (counts_together limit near g xs half (omega arith)) (cases_lt limit (g x + near))
  where
    go : (p rest all q qs counts : ℕ) → all ≡ p + rest → counts ≡ q + qs → all ≤ limit → (limit < p + near → q ≡ limit) → (p + near ≤ limit → q ≤ p) → (p < near → q ≡ 0) → (rest < near → qs ≡ 0) → Count limit near rest qs →
        (limit < p + near) ⊎ (p + near ≤ limit) → Count limit near all counts
    go p rest all q qs counts e e' within big other small none ih (inl h) = inr (omega (arith, big h, none (omega arith)), omega arith)
    go p rest all q qs counts e e' within big other small none (inl fewer) (inr h) = inl (omega (arith, other h))
    go p rest all q qs counts e e' within big other small none (inr one) (inr h) = inr (omega (arith, small (omega (arith, one.1)), one.0), omega (arith, one.1))

counts-le : {X : Type 0} (limit near : ℕ) (g : X → ℕ) (xs : List X) → 2 * near ≤ limit → sum_by g xs ≤ limit → sum_by (λ x. counted limit near (g x)) xs ≤ limit
counts-le limit near g xs half within = elim (counts_together limit near g xs half within) [
  | inl few ↦ omega arith
  | inr one ↦ omega (arith, one.0)
]

-- ---- the power of all tests

module _ (soc : SocValue) (limits : LimitsValue) (plan : PlanValue) (good : IsGood soc limits plan) where
  -- at a cycle
  counts_at : {limit : ℕ} (near : ℕ) → limits.power ≡ Some limit → 1 ≤ limit → 2 * near ≤ limit → (c : ℕ) →
      sum_by (λ l. while_active (λ r. counted limit near (draw_of limits l r)) (plan_of plan l) c) (live_tests soc) ≤ limit
  counts_at {limit} near is some half c =
      let within = draws-le soc limits plan good is c in
      let all = counts-le limit near (λ l. while_active (draw_of limits l) (plan_of plan l) c) (live_tests soc) half within in
      let each =
      sum_by-le_at (λ l. while_active (λ r. counted limit near (draw_of limits l r)) (plan_of plan l) c) (λ l. counted limit near (while_active (draw_of limits l) (plan_of plan l) c)) (live_tests soc) (λ i l at. here l (cases_Bool (is_active c (plan_of plan l)))) in
      omega (arith, all, each)
    where
      here : (l : LiveTest) → (is_active c (plan_of plan l) ≡ true) ⊎ (is_active c (plan_of plan l) ≡ false) → while_active (λ r. counted limit near (draw_of limits l r)) (plan_of plan l) c ≤ counted limit near (while_active (draw_of limits l) (plan_of plan l) c)
      here l (inl yes') = rw yes' (omega arith)
      here l (inr no') = rw no' (omega arith)

  pub powers_fit : (near : ℕ) → IsNear limits near → sum_by (λ l. power_use limits near l (time_of plan l) limits.power) (live_tests soc) ≤ plan.cycles
  powers_fit near h = go limits.power refl h
    where
      go : (o : Option ℕ) → limits.power ≡ o → MatchOption o ⊥ (λ limit. (1 ≤ limit) × (2 * near ≤ limit)) → sum_by (λ l. power_use limits near l (time_of plan l) o) (live_tests soc) ≤ plan.cycles
      go None is h = absurd h
      go (Some limit) is h =
          quotients_bound (λ l r. counted limit near (draw_of limits l r)) (plan_of plan) (live_tests soc) plan.cycles limit h.0 (λ c less. counts_at near is h.0 h.1 c) (ends soc limits plan good)
