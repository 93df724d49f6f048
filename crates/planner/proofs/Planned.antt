-- A plan whose starts are those of placed tests keeps the rules that look at starts.
use Rattle.std.proofs.Common.{◌≡◌, inl, inr, ℕ, suc, ◌+◌, ◌-◌, ◌<◌, ◌≤◌, Bool, true, false, Option, Some, None, List, [], ◌∷◌, length, take, map, refl, sym, ◌∙◌, ap, arith, slice_get, nat_eq, nat_le, nat_lt, ◌&&◌, ◌||◌, IfSome, if◌then◌else◌, sum_by}
use Rattle.std.proofs.lemmas.Bool.{cases_Bool, cases_lt, cases_order, eq-eqb, eqb-true, ne_eqb, le-leb, lt-leb, leb-true, or_left, or_right}
use Rattle.std.proofs.lemmas.List.Sums.{sum_by-cons}
use Rattle.std.proofs.lemmas.Option.{slice_get-map, slice_get-get_or, slice_get_within, get_or_from_slice_get}
use Rattle.soc_model.specs.declared.TestId.{TestId}
use Rattle.soc_model.specs.Chips.{SocValue, LiveTest, live_tests, id_of, same_test}
use Rattle.soc_model.proofs.Parents.{place-from_IsParent}
use Rattle.plan_model.specs.Plans.{PlanValue, ProfileValue, LimitsValue, PlannedTest, step_power, planned, planned_test, of_first, end_of as end_of_planned, greatest, bus_place, chains_of, operations_of, is_active as is_active_planned, power_of as power_of_planned, power_at as power_at_planned}
use Rattle.plan_model.specs.Right.{IsAt, Meet}
use Rattle.plan_model.specs.Rules.{Each, NoClash, ShareBus, ShareModule, AreParentAndChild, InOrder, WithinPower, StartsOnce, HasStart, live_ids}
use Rattle.plan_model.proofs.CertificatesAreBounds.{same_test_is, is_same_test}
use Rattle.plan_model.proofs.Greatest.{le-greatest_at, greatest-least}
use Rattle.plan_model.proofs.Lists.{at_contains}
use Rattle.plan_model.proofs.PlannedTests.{of_first_is}
use Rattle.plan_model.proofs.Sums.{sum_by-filter, sum_by-or, sum_by-le_at, item-le-sum_by}
use Rattle.resource_table.specs.declared.Placement.{Placement}
use Rattle.resource_table.specs.Jobs.{TestValue, JobValue, no_test, test_at, cycles_of, Precedes}
use Rattle.resource_table.specs.Schedules.{TableValue, exclude, same_bus, is_at, end_of, last_end, IsActive, is_active, power_of, drawn, power_at, IsSoundTable}
use Rattle.resource_table.proofs.Schedules.{sound_apart, sound_power, sound_order}
use Rattle.resource_table.proofs.Placed.{sound_tests}
use Rattle.live_tests.specs.Names.{AllDiffer}
use Rattle.planner.specs.Jobs.{test_of, job_of}
use Rattle.schedule_search.specs.Orders.{IsTopological}
use Rattle.planner.specs.Schedules.{start_of, KeepsTimes}
use Rattle.planner.proofs.JobPrecedences.{to_job}
use Rattle.common_lemmas.proofs.Options.{if_fewer}
use Rattle.common_lemmas.proofs.Lists.{from_take, from_map, contains_at}

-- ---- tests that exclude each other

is_at_place : (o : Option ℕ) (p : ℕ) → o ≡ Some p → is_at o p ≡ true
is_at_place o p is = rw is (eq-eqb p p refl)

module _ (a b : TestValue) where
  near_excludes : same_bus a.bus b.bus || nat_eq a.place b.place ≡ true → exclude a b ≡ true
  near_excludes h = or_left (same_bus a.bus b.bus || nat_eq a.place b.place) (is_at a.parent b.place || is_at b.parent a.place) h

  kin_excludes : is_at a.parent b.place || is_at b.parent a.place ≡ true → exclude a b ≡ true
  kin_excludes h = or_right (same_bus a.bus b.bus || nat_eq a.place b.place) (is_at a.parent b.place || is_at b.parent a.place) h

  bus_excludes : (k : ℕ) → a.bus ≡ Some k → b.bus ≡ Some k → exclude a b ≡ true
  bus_excludes k one other = near_excludes (or_left (same_bus a.bus b.bus) (nat_eq a.place b.place) (rw (one, other) (eq-eqb k k refl)))

  place_excludes : a.place ≡ b.place → exclude a b ≡ true
  place_excludes same = near_excludes (or_right (same_bus a.bus b.bus) (nat_eq a.place b.place) (eq-eqb a.place b.place same))

  child_excludes : a.parent ≡ Some b.place → exclude a b ≡ true
  child_excludes is = kin_excludes (or_left (is_at a.parent b.place) (is_at b.parent a.place) (is_at_place a.parent b.place is))

  parent_excludes : b.parent ≡ Some a.place → exclude a b ≡ true
  parent_excludes is = kin_excludes (or_right (is_at a.parent b.place) (is_at b.parent a.place) (is_at_place b.parent a.place is))

-- ---- sums over items by keys

some_or : (b : Bool) (n : ℕ) → (if b then n else 0) ≤ n
some_or true n = omega arith
some_or false n = omega arith

-- the sum of items that stand behind those of another list, each at its own key
keyed_sum : {X Y : Type 0} (g : X → ℕ) (f : Y → ℕ) (key : Y → ℕ) (ys : List Y) (xs : List X) (base : ℕ) → ((i : ℕ) (x : X) → slice_get xs i ≡ Some x → (n : ℕ) × (y : Y) × (slice_get ys n ≡ Some y) × (key y ≡ base + i) × (g x ≤ f y))
    → sum_by g xs ≤ sum_by (λ y. if nat_le base (key y) then f y else 0) ys
keyed_sum g f key ys [] base h = omega arith
keyed_sum g f key ys (x ∷ xs) base h =
    let first = h 0 x refl in
    let rest = keyed_sum g f key ys xs (suc base) (λ i y at. let r = h (suc i) y at in (r.0, r.1, r.2, omega (arith, r.3), r.4)) in
    let here : nat_eq (key first.1) base ≡ true = eq-eqb (key first.1) base (omega (arith, first.3)) in
    let item : (if nat_eq (key first.1) base then f first.1 else 0) ≤ sum_by (λ y. if nat_eq (key y) base then f y else 0) ys = item-le-sum_by (λ y. if nat_eq (key y) base then f y else 0) ys first.0 first.1 first.2 in
    let item' : f first.1 ≤ sum_by (λ y. if nat_eq (key y) base then f y else 0) ys = rw here at item in
    let both = sum_by-or (λ y. nat_eq (key y) base) (λ y. nat_le (suc base) (key y)) f ys (λ y e e'. let a = eqb-true (key y) base e in let b = leb-true (suc base) (key y) e' in omega (arith, a, b)) in
    let all = sum_by-le_at (λ y. if nat_eq (key y) base || nat_le (suc base) (key y) then f y else 0) (λ y. if nat_le base (key y) then f y else 0) ys (λ i y at. from (key y) (f y)) in
    omega (arith, sum_by-cons g x xs, first.4, item', both, all, rest)
  where
    from : (k n : ℕ) → (if nat_eq k base || nat_le (suc base) k then n else 0) ≤ (if nat_le base k then n else 0)
    from k n = elim (cases_lt k base) [
      | inl less ↦
          let one : nat_eq k base ≡ false = ne_eqb k base (λ e. absurd (omega (arith, less, e))) in
          let two : nat_le (suc base) k ≡ false = lt-leb (suc base) k (omega (arith, less)) in
          rw (one, two) (omega arith)
      | inr more ↦ let all : nat_le base k ≡ true = le-leb base k more in rw all (some_or (nat_eq k base || nat_le (suc base) k) n)
    ]

sum_keyed : {X Y : Type 0} (g : X → ℕ) (f : Y → ℕ) (key : Y → ℕ) (ys : List Y) (xs : List X) → ((i : ℕ) (x : X) → slice_get xs i ≡ Some x → (n : ℕ) × (y : Y) × (slice_get ys n ≡ Some y) × (key y ≡ i) × (g x ≤ f y)) → sum_by g xs ≤ sum_by f ys
sum_keyed g f key ys xs h =
    let part = keyed_sum g f key ys xs 0 (λ i x at. let r = h i x at in (r.0, r.1, r.2, omega (arith, r.3), r.4)) in
    let all = sum_by-le_at (λ y. if nat_le 0 (key y) then f y else 0) f ys (λ i y at. some_or (nat_le 0 (key y)) (f y)) in
    omega (arith, part, all)

steps_power : (ps : List ProfileValue) (id : TestId) (own r : ℕ) → of_first (λ (p : ProfileValue). same_test p.test id) (λ p. step_power r 0 p.steps) own ps ≡ step_power r 0 (of_first (λ (p : ProfileValue). same_test p.test id) (λ p. p.steps) ((0, own) ∷ []) ps)
steps_power [] id own r = let begun : nat_le 0 r ≡ true = le-leb 0 r (omega arith) in rw begun refl
steps_power (p ∷ ps) id own r = elim (cases_Bool (same_test p.test id)) [
  | inl yes' ↦ rw yes' refl
  | inr no' ↦ rw no' (steps_power ps id own r)
]

-- ---- the plan of placed tests

-- all that is known of a plan and its placed tests
pub record IsLaid (soc : SocValue) (limits : LimitsValue) (plan : PlanValue) (placed : List Placement) : Type 0 where
  pub differ : AllDiffer (live_ids soc)
  pub sound : IsSoundTable (record { job = job_of soc limits plan; placed = placed })
  pub topological : IsTopological (job_of soc limits plan) (map (λ (p : Placement). p.test) placed)
  pub starts_are : plan.starts ≡ map (start_of (job_of soc limits plan)) placed

-- the placement of a live test, with its start and end in the plan
record IsBehind (job : JobValue) (placed : List Placement) (i : ℕ) (u : PlannedTest) : Type 0 where
  n : ℕ
  p : Placement
  there : slice_get placed n ≡ Some p
  p_is : p.test ≡ i
  start_is : u.start ≡ p.start
  end_is : end_of_planned u ≡ end_of job p

-- the placement behind a start
record IsStartOf (soc : SocValue) (placed : List Placement) (n : ℕ) (s : TestId × ℕ) : Type 0 where
  p : Placement
  there : slice_get placed n ≡ Some p
  id : slice_get (live_ids soc) p.test ≡ Some s.0
  start : p.start ≡ s.1

module _ (soc : SocValue) (limits : LimitsValue) (plan : PlanValue) (placed : List Placement) (laid : IsLaid soc limits plan placed) where
  abbrev job : JobValue
  job = job_of soc limits plan

  abbrev table : TableValue
  table = record { job = job; placed = placed }

  abbrev tests : List PlannedTest
  tests = planned soc plan

  abbrev timed : LiveTest → PlannedTest
  timed l = planned_test plan l.place l.core l.test

  test_there : (i : ℕ) (l : LiveTest) → slice_get (live_tests soc) i ≡ Some l → slice_get job.tests i ≡ Some (test_of soc limits plan l)
  test_there i l at = rw (slice_get-map (test_of soc limits plan) (live_tests soc) i, at) refl

  test_is : (i : ℕ) (l : LiveTest) → slice_get (live_tests soc) i ≡ Some l → test_at job i ≡ test_of soc limits plan l
  test_is i l at = get_or_from_slice_get job.tests i (test_of soc limits plan l) no_test (test_there i l at)

  live_there : (i : ℕ) → i < length job.tests → (l : LiveTest) × (slice_get (live_tests soc) i ≡ Some l)
  live_there i within = let from = from_map (test_of soc limits plan) (live_tests soc) i (test_at job i) (slice_get-get_or job.tests i no_test within) in (from.0, from.1)

  id_there : (i : ℕ) (l : LiveTest) → slice_get (live_tests soc) i ≡ Some l → slice_get (live_ids soc) i ≡ Some (id_of l)
  id_there i l at = rw (slice_get-map id_of (live_tests soc) i, at) refl

  start_from : (n : ℕ) (s : TestId × ℕ) → slice_get plan.starts n ≡ Some s → IsStartOf soc placed n s
  start_from n s at =
      let from = from_map (start_of job) placed n s (rw laid.starts_are at at) in
      let l = live_there (from.0).test ((sound_tests table laid.sound).inside n from.0 from.1) in
      let id : id_of l.0 ≡ s.0 = ap (λ (v : TestValue). v.id) (sym (test_is (from.0).test l.0 l.1)) ∙ ap (λ (s : TestId × ℕ). s.0) from.2 in
      record { p = from.0; there = from.1; id = id_there (from.0).test l.0 l.1 ∙ ap Some id; start = ap (λ (s : TestId × ℕ). s.1) from.2 }

  -- no test is placed twice
  same_placement : (n m : ℕ) (p q : Placement) → slice_get placed n ≡ Some p → slice_get placed m ≡ Some q → p.test ≡ q.test → n ≡ m
  same_placement n m p q at there same = elim (cases_order n m) [
    | inl equal ↦ equal
    | inr apart ↦ elim apart [
      | inl less ↦ absurd ((sound_tests table laid.sound).differ n m p q less at there same)
      | inr more ↦ absurd ((sound_tests table laid.sound).differ m n q p more there at (sym same))
    ]
  ]

  start_at : (n : ℕ) (p : Placement) → slice_get placed n ≡ Some p → slice_get plan.starts n ≡ Some (start_of job p)
  start_at n p at = ap (λ (l : List (TestId × ℕ)). slice_get l n) laid.starts_are ∙ rw (slice_get-map (start_of job) placed n, at) refl

  -- where a live test is placed, and its start among those of the plan
  place_of : (i : ℕ) (l : LiveTest) → slice_get (live_tests soc) i ≡ Some l → (n : ℕ) × (p : Placement) × (slice_get placed n ≡ Some p) × (p.test ≡ i) × (slice_get plan.starts n ≡ Some (id_of l, p.start))
  place_of i l at =
      let here = contains_at (map (λ (p : Placement). p.test) placed) i (laid.topological.whole i (slice_get_within job.tests i (test_of soc limits plan l) (test_there i l at))) in
      let p = from_map (λ (p : Placement). p.test) placed here.0 i here.1 in
      let id : (test_at job (p.0).test).id ≡ id_of l = ap (λ (k : ℕ). (test_at job k).id) p.2 ∙ ap (λ (v : TestValue). v.id) (test_is i l at) in
      (here.0, p.0, p.1, p.2, start_at here.0 p.0 p.1 ∙ ap (λ (v : TestId). Some (v, (p.0).start)) id)

  behind : (i : ℕ) (l : LiveTest) → slice_get (live_tests soc) i ≡ Some l → IsBehind job placed i (timed l)
  unfolding planned_test
  behind i l at =
      let p = place_of i l at in
      let first = of_first_is (λ (s : TestId × ℕ). same_test s.0 (id_of l)) (λ (s : TestId × ℕ). s.1) 0 plan.starts p.0 (id_of l, (p.1).start) p.4 (is_same_test (id_of l)) in
      let other : IsStartOf soc placed first.0 first.1 = start_from first.0 first.1 first.2 in
      let test : other.p.test ≡ i = laid.differ other.p.test i (id_of l) (other.id ∙ ap Some (same_test_is (first.1).0 (id_of l) first.3)) (id_there i l at) in
      let same : first.0 ≡ p.0 = same_placement first.0 p.0 other.p p.1 other.there p.2 (test ∙ sym p.3) in
      let one : other.p ≡ p.1 = cc (other.there, same, p.2) in
      let start : (timed l).start ≡ (p.1).start = first.4 ∙ sym other.start ∙ ap (λ (q : Placement). q.start) one in
      let cycles_are : (test_of soc limits plan l).cycles ≡ cycles_of job (p.1).test = ap (λ (v : TestValue). v.cycles) (sym (test_is i l at)) ∙ ap (λ (k : ℕ). cycles_of job k) (sym p.3) in
      record { n = p.0; p = p.1; there = p.2; p_is = p.3; start_is = start; end_is = ap (λ (s : ℕ). s + length (operations_of l.core l.test (chains_of plan l.core l.test))) start ∙ ap (λ (k : ℕ). (p.1).start + k) cycles_are }

  live_at : (i : ℕ) (u : PlannedTest) → IsAt tests i u → (l : LiveTest) × (slice_get (live_tests soc) i ≡ Some l) × (timed l ≡ u)
  unfolding planned
  live_at i u at = from_map timed (live_tests soc) i u at

  -- ---- tests that may not meet

  apart : (i j c : ℕ) (l m : LiveTest) → slice_get (live_tests soc) i ≡ Some l → slice_get (live_tests soc) j ≡ Some m → i < j → exclude (test_of soc limits plan l) (test_of soc limits plan m) ≡ true → exclude (test_of soc limits plan m) (test_of soc limits plan l) ≡ true
      → Meet (timed l) (timed m) c → ⊥
  apart i j c l m at at' less related turned meet =
      let a : IsBehind job placed i (timed l) = behind i l at in
      let b : IsBehind job placed j (timed m) = behind j m at' in
      let first : IsActive job a.p c = (omega (arith, a.start_is, meet.0.0), omega (arith, a.end_is, meet.0.1)) in
      let second : IsActive job b.p c = (omega (arith, b.start_is, meet.1.0), omega (arith, b.end_is, meet.1.1)) in
      elim (cases_order a.n b.n) [
        | inl same ↦ let one : a.p ≡ b.p = cc (a.there, b.there, same) in let tests : i ≡ j = sym a.p_is ∙ ap (λ (q : Placement). q.test) one ∙ b.p_is in absurd (omega (arith, less, tests))
        | inr differ ↦ elim differ [
          | inl before ↦ sound_apart table a.n b.n c a.p b.p laid.sound before a.there b.there (rw (a.p_is, b.p_is, test_is i l at, test_is j m at') related) first second
          | inr after ↦ sound_apart table b.n a.n c b.p a.p laid.sound after b.there a.there (rw (a.p_is, b.p_is, test_is i l at, test_is j m at') turned) second first
        ]
      ]

  -- so no two tests meet that are related in a way by which they exclude each other
  none_clash : (R : PlannedTest → PlannedTest → Type 0) → ((l m : LiveTest) → R (timed l) (timed m) → (exclude (test_of soc limits plan l) (test_of soc limits plan m) ≡ true) × (exclude (test_of soc limits plan m) (test_of soc limits plan l) ≡ true)) → NoClash R tests
  none_clash R excludes i j c u v clash =
      let a = live_at i u clash.first in
      let b = live_at j v clash.second in
      let both = excludes a.0 b.0 (rw (a.2, b.2) clash.related) in
      apart i j c a.0 b.0 a.1 b.1 clash.order both.0 both.1 (rw (a.2, b.2) clash.meet)

  keeps_wires : NoClash ShareBus tests
  unfolding planned_test
  keeps_wires = none_clash ShareBus (λ l m share.
      let a = test_of soc limits plan l in
      let b = test_of soc limits plan m in
      let k = bus_place l.core.number 0 plan.buses in
      let one : a.bus ≡ Some k = rw share.0 refl in
      let other : b.bus ≡ Some k = rw (share.1, share.2) refl in
      (bus_excludes a b k one other, bus_excludes b a k other one))

  keeps_busy : NoClash ShareModule tests
  unfolding planned_test
  keeps_busy = none_clash ShareModule (λ l m same. (place_excludes (test_of soc limits plan l) (test_of soc limits plan m) same, place_excludes (test_of soc limits plan m) (test_of soc limits plan l) (sym same)))

  keeps_parents : NoClash (AreParentAndChild soc) tests
  unfolding planned_test
  keeps_parents = none_clash (AreParentAndChild soc) (λ l m kin.
      let is = place-from_IsParent soc.modules l.place m.place kin in
      (parent_excludes (test_of soc limits plan l) (test_of soc limits plan m) is, child_excludes (test_of soc limits plan m) (test_of soc limits plan l) is))

  keeps_precedences : Each (InOrder tests) limits.before
  unfolding planned_test
  keeps_precedences n q at i j u v there there' is =
      let l = live_at i u there in
      let m = live_at j v there' in
      let a : IsBehind job placed i (timed l.0) = behind i l.0 l.1 in
      let b : IsBehind job placed j (timed m.0) = behind j m.0 m.1 in
      let before : Precedes job i j = to_job soc limits plan laid.differ n i j (id_of l.0) (id_of m.0) (at ∙ ap Some (rw (← l.2, ← m.2) at is)) (id_there i l.0 l.1) (id_there j m.0 m.1) in
      let ended = sound_order table a.n b.n a.p b.p laid.sound a.there b.there (rw (a.p_is, b.p_is) before) in
      rw (← l.2, ← m.2) (omega (arith, ended, a.end_is, b.start_is))

  -- ---- power

  abbrev drawn_planned : ℕ → PlannedTest → ℕ
  drawn_planned c u = if is_active_planned c u then power_of_planned limits u (c - u.start) else 0

  drawn_same : (i c : ℕ) (l : LiveTest) → slice_get (live_tests soc) i ≡ Some l → (b : IsBehind job placed i (timed l)) → drawn_planned c (timed l) ≡ drawn job c b.p
  unfolding planned_test
  drawn_same i c l at b =
      let power : (r : ℕ) → power_of_planned limits (timed l) r ≡ power_of job b.p.test r = λ r. steps_power limits.profiles (id_of l) l.test.power r ∙ rw (b.p_is, test_is i l at) refl in
      let active : is_active_planned c (timed l) ≡ is_active job c b.p = ap (λ (n : ℕ). nat_le n c && nat_lt c (end_of_planned (timed l))) b.start_is ∙ ap (λ (n : ℕ). nat_le b.p.start c && nat_lt c n) b.end_is in
      ap (λ (b : Bool). if b then power_of_planned limits (timed l) (c - (timed l).start) else 0) active
      ∙ ap (λ (n : ℕ). if is_active job c b.p then n else 0) (power (c - (timed l).start) ∙ ap (λ (n : ℕ). power_of job b.p.test (c - n)) b.start_is)

  keeps_power : (c : ℕ) → WithinPower limits tests c
  keeps_power c =
      let less = sum_keyed (drawn_planned c) (drawn job c) (λ (p : Placement). p.test) placed tests (λ i u at.
      let l = live_at i u at in
      let b : IsBehind job placed i (timed l.0) = behind i l.0 l.1 in
      let same : drawn_planned c u ≡ drawn job c b.p = ap (drawn_planned c) (sym l.2) ∙ drawn_same i c l.0 l.1 b in
      (b.n, b.p, b.there, b.p_is, omega (arith, same))) in
      let all : power_at_planned limits tests c ≡ sum_by (drawn_planned c) tests = sum_by-filter (is_active_planned c) (λ u. power_of_planned limits u (c - u.start)) tests in
      if_fewer limits.power (power_at_planned limits tests c) (power_at job placed c) (omega (arith, less, all)) (sound_power table c laid.sound)

  -- ---- starts and ends

  keeps_starts : Each (StartsOnce soc) plan.starts
  keeps_starts n s at =
      let here : IsStartOf soc placed n s = start_from n s at in (
        at_contains (live_ids soc) here.p.test s.0 here.id,
        λ there.
            let k = contains_at (map (λ (e : TestId × ℕ). e.0) (take n plan.starts)) s.0 there in
            let e = from_map (λ (e : TestId × ℕ). e.0) (take n plan.starts) k.0 s.0 k.1 in
            let early = from_take plan.starts n k.0 e.0 e.1 in
            let other : IsStartOf soc placed k.0 e.0 = start_from k.0 e.0 early.1 in
            let test : other.p.test ≡ here.p.test = laid.differ other.p.test here.p.test s.0 (other.id ∙ ap Some e.2) here.id in
            let same : k.0 ≡ n = same_placement k.0 n other.p here.p other.there here.there test in
            absurd (omega (arith, early.0, same)),
      )

  has_starts : Each (HasStart plan) (live_ids soc)
  has_starts i id at =
      let l = from_map id_of (live_tests soc) i id at in
      let p = place_of i l.0 l.1 in
      at_contains (map (λ (e : TestId × ℕ). e.0) plan.starts) p.0 id (rw (slice_get-map (λ (e : TestId × ℕ). e.0) plan.starts p.0, p.4, l.2) refl)

  ends_are : last_end job placed ≡ greatest (map end_of_planned tests)
  unfolding planned
  ends_are =
      let most : greatest (map end_of_planned tests) ≤ last_end job placed = greatest-least end_of_planned (last_end job placed) tests (λ i u at.
      let l = live_at i u at in
      let a : IsBehind job placed i (timed l.0) = behind i l.0 l.1 in
      let end = le-greatest_at (end_of job) placed a.n a.p a.there in
      omega (arith, a.end_is, end, ap end_of_planned l.2)) in
      let least : last_end job placed ≤ greatest (map end_of_planned tests) = greatest-least (end_of job) (greatest (map end_of_planned tests)) placed (λ n p at.
      let l = live_there p.test ((sound_tests table laid.sound).inside n p at) in
      let a : IsBehind job placed p.test (timed l.0) = behind p.test l.0 l.1 in
      let same : a.n ≡ n = same_placement a.n n a.p p a.there at a.p_is in
      let one : a.p ≡ p = cc (a.there, same, at) in
      let end = le-greatest_at end_of_planned tests p.test (timed l.0) (rw (slice_get-map timed (live_tests soc) p.test, l.1) refl) in
      let end' : end_of_planned (timed l.0) ≡ end_of job p = a.end_is ∙ ap (end_of job) one in
      omega (arith, end, end')) in
      omega (arith, most, least)

  pub keeps_times : (cycles : ℕ) → cycles ≡ last_end job placed → KeepsTimes soc limits plan cycles
  keeps_times cycles ends = record { starts = (keeps_starts, has_starts); wires = keeps_wires; busy = keeps_busy; parents = keeps_parents; precedences = keeps_precedences; power = keeps_power; ends = ends ∙ ends_are }
