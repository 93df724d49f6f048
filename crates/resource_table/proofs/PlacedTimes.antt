-- The timelines of a table, as tests are placed and taken back, and what they say of where a test fits.
use Rattle.std.proofs.Common.{◌≡◌, ◌⊎◌, ℕ, zero, suc, ◌+◌, ◌<◌, ◌≤◌, ◌^◌, inl, inr, Option, None, Some, Result, Ok, Err, List, [], ◌∷◌, ◌++◌, length, get_or, map, take, replicate, Bool, true, false, max, arith, refl, sym, ap, ◌∙◌, subst, length-append, slice_get, nat_eq, nat_lt, nat_le, ◌&&◌, ◌||◌, if◌then◌else◌, IfSome, IfOk, vec_capacity}
use Rattle.std.specs.{List.All, List.sum_by, List.remove, Global.Vec}
use Rattle.std.proofs.lemmas.Bool.{cases_Bool, cases_lt, lt-ltb, le-ltb, ltb-false, lt-leb, le-leb, leb-false, eqb-true, eq-eqb, and_right, or_cases, or_left, or_right}
use Rattle.std.proofs.lemmas.List.Sums.{sum_by-cons, sum_by_push, sum_by-insert, sum_by-remove, sum_by-le}
use Rattle.std.proofs.lemmas.List.{length-take, length-map, length-replicate, get_or-replicate, Sorted.IsNonDecreasingBy-insert, Sorted.IsNonDecreasingBy-short}
use Rattle.std.proofs.lemmas.Option.{slice_get_within, slice_get-get_or, get_or_from_slice_get}
use Rattle.outside.specs.declared.NoMemory.{NoMemory}
use Rattle.plan_model.{specs.declared.TheConstants.WIRES_MOST, proofs.Sums.sum_by-le_at, proofs.Greatest.le-greatest_at}
use Rattle.resource_table.specs.{declared.JobTest.JobTest, declared.Placement.Placement, LatestEnds.AreLatestEnds}
use Rattle.busy_times.specs.declared.latest_ends.LatestEnds.{LatestEnds}
use Rattle.resource_table.specs.declared.empty_times.Kind.{Kind}
use Rattle.resource_table.specs.declared.empty_times.Kind.TheVariants.{Bus, Own, Children}
use Rattle.busy_times.specs.{declared.timelines.Span.Span, declared.timelines.Timeline.Timeline, declared.timelines.Timelines.Timelines}
use Rattle.resource_table.specs.Jobs.{TestValue, JobValue, test_value, test_at, no_test, cycles_of}
use Rattle.resource_table.specs.Schedules.{at_start, is_at, same_bus, exclude, end_of, last_end, MeetsNone, MayPlace, IsSoundTable}
use Rattle.busy_times.specs.BusyTimes.{IsClear, AreFree, IsPut, IsTaken, MayFill, ArePut, MayClear, AreTaken, IsFree, AreOrdered, MayAdd, IsAdded, MayRemove, IsRemoved}
use Rattle.resource_table.specs.PlacedTimes.{busy_places, timeline_of, is_alone, takes, room_of, least_of, span_of, part_in, IsTimeline, AreTimelines, AreTimes, AreEmpty, AreEmptyTimes}
use Rattle.resource_table.proofs.Placed.{sum_of_placed, sound_tests}
use Rattle.resource_table.proofs.KeptTables.{sound_push, trail_has_room}
use Rattle.busy_times.proofs.{Ordered.ordered_remove, Profiles.sum_of_none}
use Rattle.resource_table.proofs.Fitting.{lasts_at}
use Rattle.resource_table.proofs.Latest.{latest_new, latest_more, latest_less}
use Rattle.common_lemmas.proofs.Tests.{both_true}
use Rattle.common_lemmas.proofs.Lists.{sum_map, some_item, at_last, all_at, all_from, from_map}

-- ---- sums that are nothing

abbrev one_if : {X : Type 0} → (X → Bool) → X → ℕ
one_if p x = if p x then 1 else 0

none_of_sum : {X : Type 0} (f : X → ℕ) (xs : List X) → sum_by f xs ≡ 0 → (i : ℕ) (x : X) → slice_get xs i ≡ Some x → f x ≡ 0
none_of_sum f [] none i x at = absurd cc
none_of_sum f (y ∷ xs) none zero x at =
    let same : y ≡ x = cc in
    let here : f y ≡ 0 = omega (arith, sum_by-cons f y xs, none) in
    ap f (sym same) ∙ here
none_of_sum f (y ∷ xs) none (suc i) x at = none_of_sum f xs (omega (arith, sum_by-cons f y xs, none)) i x at

none_one : (b : Bool) → (let n : ℕ = (if b then 1 else 0) in n) ≡ 0 → b ≡ false
none_one true h = absurd (omega (arith, h))
none_one false h = refl

-- an item that passes, or none does
some_or_none : {X : Type 0} (p : X → Bool) (xs : List X) → ((i : ℕ) × (x : X) × (slice_get xs i ≡ Some x) × (p x ≡ true)) ⊎ ((i : ℕ) (x : X) → slice_get xs i ≡ Some x → p x ≡ false)
some_or_none p [] = inr (λ i x at. absurd cc)
some_or_none {X} p (y ∷ xs) = elim (cases_Bool (p y)) [
  | inl yes' ↦ inl (0, y, refl, yes')
  | inr no' ↦ elim (some_or_none p xs) [
    | inl r ↦ inl (suc r.0, r.1, r.2, r.3)
    | inr none ↦ inr (both no' none)
  ]
]
  where
    both : p y ≡ false → ((i : ℕ) (x : X) → slice_get xs i ≡ Some x → p x ≡ false) → (i : ℕ) (x : X) → slice_get (y ∷ xs) i ≡ Some x → p x ≡ false
    both here rest zero x at = let same : y ≡ x = cc in ap p (sym same) ∙ here
    both here rest (suc i) x at = rest i x at

-- ---- which timeline a test takes

takes_from : (o : Option ℕ) (k : ℕ) → o ≡ Some k → is_at o k ≡ true
takes_from None k is = absurd cc
takes_from (Some j) k is = let same : j ≡ k = cc in eq-eqb j k same

takes_is : (o : Option ℕ) (k : ℕ) → is_at o k ≡ true → o ≡ Some k
takes_is None k is = absurd cc
takes_is (Some j) k is = ap Some (eqb-true j k is)

takes_not : (o : Option ℕ) (k : ℕ) → is_at o k ≡ false → o ≡ Some k → ⊥
takes_not o k no' is = let yes' = takes_from o k is in absurd cc

-- ---- a timeline and the placed tests

-- a test of `length'` cycles from a start meets this time
abbrev meets : (length' start : ℕ) → Span → Bool
meets length' start s = nat_lt start s.to && nat_lt s.from (start + length')

module _ (length' start : ℕ) (s : Span) where
  clear_meets : IsClear length' start s → meets length' start s ≡ false
  clear_meets (inl over) = let late = le-ltb start s.to over in rw late refl
  clear_meets (inr early) = and_right (nat_lt start s.to) (nat_lt s.from (start + length')) (le-ltb s.from (start + length') early)

  meets_clear : meets length' start s ≡ false → IsClear length' start s
  meets_clear none = elim (cases_lt start s.to) [
    | inr over ↦ inl over
    | inl before ↦ elim (cases_lt s.from (start + length')) [
      | inr early ↦ inr early
      | inl late ↦ absurd (let a = lt-ltb start s.to before in let b = lt-ltb s.from (start + length') late in
          let both : meets length' start s ≡ true = rw (a, b) refl in let never = sym both ∙ none in cc)
    ]
  ]

abbrev same_span : Span → Span → Bool
same_span a b = nat_eq a.from b.from && nat_eq a.to b.to

same_span-self : (a : Span) → same_span a a ≡ true
same_span-self a =
    let t = eq-eqb a.to a.to refl in rw (eq-eqb a.from a.from refl, t) refl

same_span-is : (a b : Span) → same_span a b ≡ true → a ≡ b
same_span-is a b h =
    let parts = both_true (nat_eq a.from b.from) (nat_eq a.to b.to) h in
    ap (λ v. make v a.to) (eqb-true a.from b.from parts.0) ∙ ap (make b.from) (eqb-true a.to b.to parts.1)
  where
    make : ℕ → ℕ → Span
    make x y = record { from = x; to = y }

module _ (job : JobValue) (placed : List Placement) (kind : Kind) (k : ℕ) (spans : List Span) (sums : (f : Span → ℕ) → sum_by f spans ≡ sum_by (part_in job kind k f) placed) where
  -- what no placed test does, no time does
  spans_none : (bad : Span → Bool) → ((n : ℕ) (p : Placement) → slice_get placed n ≡ Some p → takes kind k (test_at job p.test) ≡ true → bad (span_of job p) ≡ false) →
      (i : ℕ) (s : Span) → slice_get spans i ≡ Some s → bad s ≡ false
  spans_none bad none i s at =
      none_one (bad s) (none_of_sum (one_if bad) spans (sums (one_if bad) ∙ sum_of_none (part_in job kind k (one_if bad)) placed one) i s at)
    where
      one : (n : ℕ) (p : Placement) → slice_get placed n ≡ Some p → part_in job kind k (one_if bad) p ≡ 0
      one n p at' = elim (cases_Bool (takes kind k (test_at job p.test))) [
        | inl yes' ↦ rw (yes', none n p at' yes') refl
        | inr no' ↦ rw no' refl
      ]

  -- and the other way round
  placed_none : (bad : Span → Bool) → ((i : ℕ) (s : Span) → slice_get spans i ≡ Some s → bad s ≡ false) →
      (n : ℕ) (p : Placement) → slice_get placed n ≡ Some p → takes kind k (test_at job p.test) ≡ true → bad (span_of job p) ≡ false
  placed_none bad none n p at yes' =
      let whole = sum_of_none (one_if bad) spans (λ i s at'. let no' = none i s at' in rw no' refl) in
      none_one (bad (span_of job p)) (rw yes' at (none_of_sum (part_in job kind k (one_if bad)) placed (sym (sums (one_if bad)) ∙ whole) n p at))

  -- the time of a placed test is there
  span_there : (n : ℕ) (p : Placement) → slice_get placed n ≡ Some p → takes kind k (test_at job p.test) ≡ true → (i : ℕ) × (slice_get spans i ≡ Some (span_of job p))
  span_there n p at yes' = elim (some_or_none (same_span (span_of job p)) spans) [
    | inl r ↦ (r.0, r.2 ∙ ap Some (sym (same_span-is (span_of job p) r.1 r.3)))
    | inr none ↦ absurd (let no' = placed_none (same_span (span_of job p)) none n p at yes' in let self = same_span-self (span_of job p) in let never = sym self ∙ no' in cc)
  ]

-- ---- no times

one_at_most : (b : Bool) → (if b then 1 else 0) ≤ 1
one_at_most true = omega arith
one_at_most false = omega arith

-- a timeline has room for the tests that take it
takers_have_room : (kind : Kind) (k : ℕ) (tests : List TestValue) → sum_by (λ t. if takes kind k t then 1 else 0) tests ≤ room_of kind k tests
takers_have_room Bus k tests =
    omega (arith, sum_by-le (λ t. if takes Bus k t then 1 else 0) 1 tests (λ j d lt. one_at_most (takes Bus k (get_or tests j d))))
takers_have_room Own k tests = omega arith
takers_have_room Children k tests = omega arith

room_of_takers : (kind : Kind) → least_of kind ≡ 0 → (k : ℕ) (tests : List TestValue) → room_of kind k tests ≡ sum_by (λ t. if takes kind k t then 1 else 0) tests
room_of_takers Bus none k tests = absurd (omega (arith, none))
room_of_takers Own none k tests = refl
room_of_takers Children none k tests = refl

-- timelines with the room that was asked for
empty_lines : (kind : Kind) (tests : List JobTest) (count : ℕ) (rooms : List ℕ) (result : Result (Vec Timeline) NoMemory) →
    All (λ (t : JobTest). IfSome (timeline_of kind (test_value t)) (λ k. k < count)) tests → count ≤ length rooms → least_of kind ≤ length rooms →
    ((k : ℕ) → k < length rooms → room_of kind k (map test_value tests) ≤ get_or rooms k 0) → IfOk result (λ lines. length lines.items ≡ length rooms) →
    IfOk result (λ lines. (k : ℕ) (line : Timeline) → slice_get lines.items k ≡ Some line → line.spans.items ≡ []) →
    IfOk result (λ lines. (k : ℕ) (line : Timeline) → slice_get lines.items k ≡ Some line → get_or rooms k 0 ≤ vec_capacity line.spans) →
    IfOk result (λ lines. AreEmpty kind (map test_value tests) lines.items)
empty_lines kind tests count rooms (Err e) reach more least fit long empty room = tt
empty_lines kind tests count rooms (Ok lines) reach more least fit long empty room = record {
  many = omega (arith, long, least);
  reach = all_from (λ (t : TestValue). IfSome (timeline_of kind t) (λ k. k < length lines.items)) (map test_value tests) (λ i t at.
      let r = from_map test_value tests i t at in
      within (timeline_of kind t) (rw r.2 at (all_at (λ (u : JobTest). IfSome (timeline_of kind (test_value u)) (λ k. k < count)) tests i r.0 reach r.1)));
  empty = empty;
  room = (λ k line at. omega (arith, room k line at, fit k (omega (arith, slice_get_within lines.items k line at, long))));
}
  where
    within : (o : Option ℕ) → IfSome o (λ k. k < count) → IfSome o (λ k. k < length lines.items)
    within None h = tt
    within (Some k) h = omega (arith, h, more, long)

pub empty_bus_lines : (tests : List JobTest) (count many : ℕ) (rooms : List ℕ) (result : Result (Vec Timeline) NoMemory) →
    All (λ (t : JobTest). IfSome (timeline_of Bus (test_value t)) (λ k. k < count)) tests → count ≤ many → WIRES_MOST ≤ many → rooms ≡ replicate many (length tests) →
    IfOk result (λ lines. length lines.items ≡ length rooms) →
    IfOk result (λ lines. (k : ℕ) (line : Timeline) → slice_get lines.items k ≡ Some line → line.spans.items ≡ []) →
    IfOk result (λ lines. (k : ℕ) (line : Timeline) → slice_get lines.items k ≡ Some line → get_or rooms k 0 ≤ vec_capacity line.spans) →
    IfOk result (λ lines. AreEmpty Bus (map test_value tests) lines.items)
empty_bus_lines tests count many rooms result reach more all is =
    let long = ap length is ∙ length-replicate many (length tests) in
    empty_lines Bus tests count rooms result reach (omega (arith, long, more)) (omega (arith, long, all))
    (λ k lt. omega (arith, ap (λ v. get_or v k 0) is, get_or-replicate many k (length tests) 0 (omega (arith, lt, long)), length-map tests test_value))

pub empty_kind : (kind : Kind) (tests : List JobTest) (count : ℕ) (counts rooms : List ℕ) (result : Result (Vec Timeline) NoMemory) → least_of kind ≡ 0 →
    All (λ (t : JobTest). IfSome (timeline_of kind (test_value t)) (λ k. k < count)) tests → length counts ≡ count →
    ((k : ℕ) → k < count → get_or counts k 0 ≡ sum_by (λ (t : JobTest). if takes kind k (test_value t) then 1 else 0) tests) →
    rooms ≡ counts → IfOk result (λ lines. length lines.items ≡ length rooms) →
    IfOk result (λ lines. (k : ℕ) (line : Timeline) → slice_get lines.items k ≡ Some line → line.spans.items ≡ []) →
    IfOk result (λ lines. (k : ℕ) (line : Timeline) → slice_get lines.items k ≡ Some line → get_or rooms k 0 ≤ vec_capacity line.spans) →
    IfOk result (λ lines. AreEmpty kind (map test_value tests) lines.items)
empty_kind kind tests count counts rooms result least reach long are same =
    let same_long = ap length same in
    empty_lines kind tests count rooms result reach (omega arith) (omega (arith, least))
    (λ k lt. omega (arith, are k (omega arith), ap (λ v. get_or v k 0) same, sum_map (λ (t : TestValue). if takes kind k t then 1 else 0) test_value tests, room_of_takers kind least k (map test_value tests)))

-- the counts of tests are small
pub few_takers : (o : Option ℕ) (counts : List ℕ) (kind : Kind) (tests : List JobTest) (i : ℕ) → i + 1 < 2 ^ 64 → IfSome o (λ k. k < length counts) →
    ((k : ℕ) → k < length counts → get_or counts k 0 ≡ sum_by (λ t. if takes kind k (test_value t) then 1 else 0) (take i tests)) → IfSome o (λ k. get_or counts k 0 + 1 < 2 ^ 64)
few_takers None counts kind tests i small inside are = tt
few_takers (Some k) counts kind tests i small inside are =
    let few = sum_by-le (λ t. if takes kind k (test_value t) then 1 else 0) 1 (take i tests) (λ j d lt. one_at_most (takes kind k (test_value (get_or (take i tests) j d)))) in
    omega (arith, are k inside, few, length-take i tests)

new_kind : (kind : Kind) (job : JobValue) (lines : List Timeline) → AreEmpty kind job.tests lines → AreTimelines job [] kind lines
new_kind kind job lines are = record {
  many = are.many;
  reach = (λ test k inside is. rw is at (are.reach test no_test inside));
  each = (λ k line at. record {
    starts = rw (are.empty k line at) (IsNonDecreasingBy-short (λ (s : Span). s.from) [] (omega arith));
    ends = (λ alone. rw (are.empty k line at) (IsNonDecreasingBy-short (λ (s : Span). s.to) [] (omega arith)));
    sums = (λ f. ap (sum_by f) (are.empty k line at));
    room = are.room k line at;
  });
}

pub times_new : (job : JobValue) (times : Timelines) → AreEmptyTimes job.tests times → AreTimes job [] times
times_new job times are = record {
  buses = new_kind Bus job times.buses.items are.buses;
  modules = new_kind Own job times.modules.items are.modules;
  children = new_kind Children job times.children.items are.children;
  latest = latest_new job (length times.children.items) times.latest are.latest are.before are.room;
}

-- ---- tests that exclude each other

module _ (t u : TestValue) where
  over_one_bus : (k : ℕ) → t.bus ≡ Some k → u.bus ≡ Some k → exclude t u ≡ true
  over_one_bus k a b =
      let same : same_bus t.bus u.bus ≡ true = rw (a, b) (eq-eqb k k refl) in
      or_left (same_bus t.bus u.bus || nat_eq t.place u.place) (is_at t.parent u.place || is_at u.parent t.place) (or_left (same_bus t.bus u.bus) (nat_eq t.place u.place) same)

  of_one_module : t.place ≡ u.place → exclude t u ≡ true
  of_one_module same =
      or_left (same_bus t.bus u.bus || nat_eq t.place u.place) (is_at t.parent u.place || is_at u.parent t.place) (or_right (same_bus t.bus u.bus) (nat_eq t.place u.place) (eq-eqb t.place u.place same))

  of_a_child : t.parent ≡ Some u.place → exclude t u ≡ true
  of_a_child is =
      or_right (same_bus t.bus u.bus || nat_eq t.place u.place) (is_at t.parent u.place || is_at u.parent t.place) (or_left (is_at t.parent u.place) (is_at u.parent t.place) (takes_from t.parent u.place is))

  of_the_parent : u.parent ≡ Some t.place → exclude t u ≡ true
  of_the_parent is =
      or_right (same_bus t.bus u.bus || nat_eq t.place u.place) (is_at t.parent u.place || is_at u.parent t.place) (or_right (is_at t.parent u.place) (is_at u.parent t.place) (takes_from u.parent t.place is))

same_bus-is : (a b : Option ℕ) → same_bus a b ≡ true → (k : ℕ) × (a ≡ Some k) × (b ≡ Some k)
same_bus-is None b h = absurd cc
same_bus-is (Some a) None h = absurd cc
same_bus-is (Some a) (Some b) h = (a, refl, ap Some (sym (eqb-true a b h)))

-- why two tests exclude each other
data Clash (t u : TestValue) : Type 0 where
  by_bus : (k : ℕ) → t.bus ≡ Some k → u.bus ≡ Some k → Clash t u
  by_module : t.place ≡ u.place → Clash t u
  by_child : t.parent ≡ Some u.place → Clash t u
  by_parent : u.parent ≡ Some t.place → Clash t u

clash_of : (t u : TestValue) → exclude t u ≡ true → Clash t u
clash_of t u h = elim (or_cases (same_bus t.bus u.bus || nat_eq t.place u.place) (is_at t.parent u.place || is_at u.parent t.place) h) [
  | inl near ↦ elim (or_cases (same_bus t.bus u.bus) (nat_eq t.place u.place) near) [
    | inl bus ↦ (let r = same_bus-is t.bus u.bus bus in by_bus r.0 r.1 r.2)
    | inr place ↦ by_module (eqb-true t.place u.place place)
  ]
  | inr far ↦ elim (or_cases (is_at t.parent u.place) (is_at u.parent t.place) far) [
    | inl child ↦ by_child (takes_is t.parent u.place child)
    | inr parent ↦ by_parent (takes_is u.parent t.place parent)
  ]
]

-- tests that take a timeline which one test takes alone exclude each other
alone_exclude : (kind : Kind) (k : ℕ) (t u : TestValue) → is_alone kind ≡ true → takes kind k t ≡ true → takes kind k u ≡ true → exclude t u ≡ true
alone_exclude Bus k t u alone a b = over_one_bus t u k (takes_is t.bus k a) (takes_is u.bus k b)
alone_exclude Own k t u alone a b = of_one_module t u (omega (arith, eqb-true t.place k a, eqb-true u.place k b))
alone_exclude Children k t u alone a b = absurd cc

-- ---- where a test fits

module _ (job : JobValue) (placed : List Placement) (sound : IsSoundTable (record { job = job; placed = placed })) where
  lasts_of : (n : ℕ) (p : Placement) → slice_get placed n ≡ Some p → 1 ≤ cycles_of job p.test
  lasts_of n p at = lasts_at (record { job = job; placed = placed }) sound n p at

  -- the time of a placed test that excludes it is clear of a test that meets none
  clear_of : (test start : ℕ) → 1 ≤ cycles_of job test → MeetsNone job placed test start → (n : ℕ) (p : Placement) → slice_get placed n ≡ Some p → exclude (test_at job p.test) (test_at job test) ≡ true →
      IsClear (cycles_of job test) start (span_of job p)
  clear_of test start lasts meets n p at clash = elim (cases_lt start (end_of job p)) [
    | inr over ↦ inl over
    | inl early ↦ elim (cases_lt p.start (start + cycles_of job test)) [
      | inr late ↦ inr late
      | inl meet ↦
          let lasts' = lasts_of n p at in
          absurd (meets n p (max p.start start) at clash (omega arith, omega arith) (omega arith, omega arith))
    ]
  ]

  clear_line : (kind : Kind) (k : ℕ) (line : Timeline) → IsTimeline job placed kind k line → (test start : ℕ) → 1 ≤ cycles_of job test →
      ((u : TestValue) → takes kind k u ≡ true → exclude u (test_at job test) ≡ true) → MeetsNone job placed test start → All (IsClear (cycles_of job test) start) line.spans.items
  clear_line kind k line is test start lasts clash meets = all_from (IsClear (cycles_of job test) start) line.spans.items (λ i s at.
      meets_clear (cycles_of job test) start s (spans_none job placed kind k line.spans.items is.sums (λ (s : Span). nat_lt start s.to && nat_lt s.from (start + cycles_of job test))
      (λ n p at' yes'. clear_meets (cycles_of job test) start (span_of job p) (clear_of test start lasts meets n p at' (clash (test_at job p.test) yes'))) i s at))

  -- a placed test doesn't meet a test that its timeline is clear of
  apart_line : (kind : Kind) (lines : List Timeline) → AreTimelines job placed kind lines → (place : Option ℕ) (k test start : ℕ) → place ≡ Some k → AreFree lines place (cycles_of job test) start →
      (n : ℕ) (p : Placement) → slice_get placed n ≡ Some p → timeline_of kind (test_at job p.test) ≡ Some k → IsClear (cycles_of job test) start (span_of job p)
  apart_line kind lines are place k test start is free n p at takes' =
      let r = some_item lines k (are.reach p.test k (sound.placed n p at).in_job takes') in
      let line = are.each k r.0 r.1 in
      meets_clear (cycles_of job test) start (span_of job p) (placed_none job placed kind k r.0.spans.items line.sums (λ (s : Span). nat_lt start s.to && nat_lt s.from (start + cycles_of job test))
      (λ i s at'. clear_meets (cycles_of job test) start s (all_at (IsClear (cycles_of job test) start) r.0.spans.items i s (free k r.0 is r.1) at')) n p at (takes_from (timeline_of kind (test_at job p.test)) k takes'))

  pub free_from_meets : (times : Timelines) → AreTimes job placed times → (test start : ℕ) → 1 ≤ cycles_of job test → MeetsNone job placed test start → IsFree times (busy_places (test_at job test)) (cycles_of job test) start
  free_from_meets times are test start lasts meets = record {
    bus = (λ k line is at. clear_line Bus k line (are.buses.each k line at) test start lasts (λ u yes'. over_one_bus u (test_at job test) k (takes_is u.bus k yes') is) meets);
    own = (λ k line is at. clear_line Own k line (are.modules.each k line at) test start lasts (λ u yes'. of_one_module u (test_at job test) (let same : (test_at job test).place ≡ k = cc in omega (arith, same, eqb-true u.place k yes'))) meets);
    parent = (λ k line is at. clear_line Own k line (are.modules.each k line at) test start lasts (λ u yes'. of_the_parent u (test_at job test) (is ∙ ap Some (sym (eqb-true u.place k yes')))) meets);
    children = (λ k line is at. clear_line Children k line (are.children.each k line at) test start lasts (λ u yes'. of_a_child u (test_at job test) (takes_is u.parent k yes' ∙ sym is)) meets);
  }

  pub meets_from_free : (times : Timelines) → AreTimes job placed times → (test start : ℕ) → IsFree times (busy_places (test_at job test)) (cycles_of job test) start → MeetsNone job placed test start
  meets_from_free times are test start free n p c at clash active here =
      elim (apart (clash_of (test_at job p.test) (test_at job test) clash)) [ inl over ↦ omega (arith, active.0, active.1, here.0, here.1, over) | inr late ↦ omega (arith, active.0, active.1, here.0, here.1, late) ]
    where
      apart : Clash (test_at job p.test) (test_at job test) → IsClear (cycles_of job test) start (span_of job p)
      apart (by_bus k a b) = apart_line Bus times.buses.items are.buses (test_at job test).bus k test start b free.bus n p at a
      apart (by_module same) = apart_line Own times.modules.items are.modules (Some (test_at job test).place) (test_at job test).place test start refl free.own n p at (ap Some same)
      apart (by_child is) = apart_line Children times.children.items are.children (Some (test_at job test).place) (test_at job test).place test start refl free.children n p at is
      apart (by_parent is) = apart_line Own times.modules.items are.modules (test_at job test).parent (test_at job p.test).place test start is free.parent n p at refl

  ends_line : (kind : Kind) (k : ℕ) (line : Timeline) → IsTimeline job placed kind k line → All (λ (s : Span). s.to ≤ last_end job placed) line.spans.items
  ends_line kind k line is = all_from (λ (s : Span). s.to ≤ last_end job placed) line.spans.items (λ i s at.
      ltb-false (last_end job placed) s.to (spans_none job placed kind k line.spans.items is.sums (λ (s : Span). nat_lt (last_end job placed) s.to)
      (λ n p at' yes'. le-ltb (last_end job placed) (end_of job p) (le-greatest_at (end_of job) placed n p at')) i s at))

  ended_line : (k end : ℕ) (line : Timeline) → IsTimeline job placed Children k line → (modules : ℕ) (latest : LatestEnds) → AreLatestEnds job placed modules latest → slice_get latest.ends.items k ≡ Some end →
      All (λ (s : Span). s.to ≤ end) line.spans.items
  ended_line k end line is modules latest are at = all_from (λ (s : Span). s.to ≤ end) line.spans.items (λ i s at'.
      ltb-false end s.to (spans_none job placed Children k line.spans.items is.sums (λ (s : Span). nat_lt end s.to)
      (λ n p there yes'. le-ltb end (end_of job p) (let h = are.now k n p (record { there = there; parent = takes_is (test_at job p.test).parent k yes' }) in omega (arith, h, get_or_from_slice_get latest.ends.items k end 0 at))) i s at'))

  pub times_ordered : (times : Timelines) (last : ℕ) → AreTimes job placed times → last ≡ last_end job placed → AreOrdered times last
  times_ordered times last are is = subst (AreOrdered times) (sym is) (record {
    buses = (λ k line at. let l = are.buses.each k line at in (l.starts, l.ends refl, ends_line Bus k line l));
    modules = (λ k line at. let l = are.modules.each k line at in (l.starts, l.ends refl, ends_line Own k line l));
    children = (λ k line at. let l = are.children.each k line at in (l.starts, ends_line Children k line l));
    latest = (λ k end line at is. ended_line k end line (are.children.each k line at) (length times.children.items) times.latest are.latest is);
  })

-- ---- one test more

-- a sum of ones counts
ones : {X : Type 0} (xs : List X) → sum_by (λ x. 1) xs ≡ length xs
ones [] = refl
ones {X} (x ∷ xs) = omega (arith, sum_by-cons (λ x. 1) x xs, ones xs)

-- the placed tests that take a timeline are no more than the job's tests that do
takers : (job : JobValue) (placed : List Placement) → IsSoundTable (record { job = job; placed = placed }) → (kind : Kind) (k : ℕ) →
    sum_by (part_in job kind k (λ s. 1)) placed ≤ sum_by (λ (t : TestValue). if takes kind k t then 1 else 0) job.tests
takers job placed sound kind k =
    let whole : sum_by (λ (p : Placement). f (get_or job.tests p.test no_test)) placed ≤ sum_by f job.tests = sum_of_placed f (none (takes kind k no_test)) placed job.tests (sound_tests (record { job = job; placed = placed }) sound) in
    omega (arith, whole, sum_by-le_at (part_in job kind k (λ s. 1)) (λ (p : Placement). f (get_or job.tests p.test no_test)) placed each, sum_by-le_at f (λ (t : TestValue). if takes kind k t then 1 else 0) job.tests (λ i t at. less (takes kind k t) (nat_le 1 t.cycles)))
  where
    f : TestValue → ℕ
    f t = if takes kind k t then (if nat_le 1 t.cycles then 1 else 0) else 0

    none : (b : Bool) → (let n : ℕ = (if b then 0 else 0) in n) ≡ 0
    none true = refl
    none false = refl

    less : (a b : Bool) → (if a then (if b then 1 else 0) else 0) ≤ (if a then 1 else 0)
    less true true = omega arith
    less true false = omega arith
    less false b = omega arith

    each : (n : ℕ) (p : Placement) → slice_get placed n ≡ Some p → part_in job kind k (λ s. 1) p ≤ f (get_or job.tests p.test no_test)
    each n p at =
        let lasts : nat_le 1 (get_or job.tests p.test no_test).cycles ≡ true = le-leb 1 (cycles_of job p.test) (lasts_at (record { job = job; placed = placed }) sound n p at) in
        rw lasts (omega arith)

module _ (job : JobValue) (placed : List Placement) (kind : Kind) (k : ℕ) (p : Placement) where
  part_yes : takes kind k (test_at job p.test) ≡ true → (f : Span → ℕ) → part_in job kind k f p ≡ f (span_of job p)
  part_yes yes' f = rw yes' refl

  part_no : takes kind k (test_at job p.test) ≡ false → (f : Span → ℕ) → part_in job kind k f p ≡ 0
  part_no no' f = rw no' refl

  more_yes : takes kind k (test_at job p.test) ≡ true → (f : Span → ℕ) → sum_by (part_in job kind k f) (placed ++ p ∷ []) ≡ sum_by (part_in job kind k f) placed + f (span_of job p)
  more_yes yes' f = omega (arith, sum_by_push (part_in job kind k f) placed p, part_yes yes' f)

  more_no : takes kind k (test_at job p.test) ≡ false → (f : Span → ℕ) → sum_by (part_in job kind k f) (placed ++ p ∷ []) ≡ sum_by (part_in job kind k f) placed
  more_no no' f = omega (arith, sum_by_push (part_in job kind k f) placed p, part_no no' f)

  line_more : (old new : Timeline) → IsTimeline job placed kind k old → takes kind k (test_at job p.test) ≡ true → p.start < end_of job p → ((i : ℕ) (s : Span) → slice_get old.spans.items i ≡ Some s → s.from < s.to) →
      (is_alone kind ≡ true → All (IsClear (cycles_of job p.test) p.start) old.spans.items) → IsPut (span_of job p) old.spans.items new.spans.items → vec_capacity new.spans ≡ vec_capacity old.spans →
      IsTimeline job (placed ++ p ∷ []) kind k new
  line_more old new was yes' lasts last clear put room = record {
    starts = rw put.is (IsNonDecreasingBy-insert (λ (s : Span). s.from) old.spans.items put.place (span_of job p) was.starts put.inside
        (λ i d lt. omega (arith, put.before i d (omega arith) lt)) (λ i d le lt. put.after i d le lt));
    ends = (λ alone. rw put.is (IsNonDecreasingBy-insert (λ (s : Span). s.to) old.spans.items put.place (span_of job p) (was.ends alone) put.inside
        (λ i d lt. let inside = put.inside in elim (clear alone i d (omega arith)) [ inl over ↦ omega arith | inr early ↦ absurd (omega (arith, put.before i d (omega arith) lt)) ])
        (λ i d le lt. elim (clear alone i d lt) [ inl over ↦ absurd (omega (arith, put.after i d le lt, last i (get_or old.spans.items i d) (slice_get-get_or old.spans.items i d lt))) | inr early ↦ omega (arith, last i (get_or old.spans.items i d) (slice_get-get_or old.spans.items i d lt)) ])));
    sums = (λ f. ap (sum_by f) put.is ∙ sum_by-insert f old.spans.items put.place (span_of job p) ∙ ap (λ n. n + f (span_of job p)) (was.sums f) ∙ sym (more_yes yes' f));
    room = omega (arith, was.room, room);
  }

  line_kept : (line : Timeline) → IsTimeline job placed kind k line → takes kind k (test_at job p.test) ≡ false → IsTimeline job (placed ++ p ∷ []) kind k line
  line_kept line was no' = record {
    starts = was.starts;
    ends = was.ends;
    sums = (λ f. was.sums f ∙ sym (more_no no' f));
    room = was.room;
  }

  line_less : (old new : Timeline) → IsTimeline job (placed ++ p ∷ []) kind k old → takes kind k (test_at job p.test) ≡ true → IsTaken (span_of job p) old.spans.items new.spans.items → vec_capacity new.spans ≡ vec_capacity old.spans →
      IsTimeline job placed kind k new
  line_less old new was yes' taken room =
      let lt = slice_get_within old.spans.items taken.place (span_of job p) taken.there in record {
        starts = rw taken.is (ordered_remove (λ (s : Span). s.from) old.spans.items taken.place was.starts lt);
        ends = (λ alone. rw taken.is (ordered_remove (λ (s : Span). s.to) old.spans.items taken.place (was.ends alone) lt));
        sums = (λ f. ap (sum_by f) taken.is ∙ less f lt);
        room = omega (arith, was.room, room);
      }
    where
      less : (f : Span → ℕ) → taken.place < length old.spans.items → sum_by f (remove old.spans.items taken.place) ≡ sum_by (part_in job kind k f) placed
      less f lt =
          let gone = ap f (get_or_from_slice_get old.spans.items taken.place (span_of job p) (span_of job p) taken.there) in
          omega (arith, sum_by-remove f old.spans.items taken.place (span_of job p) lt, gone, was.sums f, more_yes yes' f)

  line_left : (line : Timeline) → IsTimeline job (placed ++ p ∷ []) kind k line → takes kind k (test_at job p.test) ≡ false → IsTimeline job placed kind k line
  line_left line was no' = record {
    starts = was.starts;
    ends = was.ends;
    sums = (λ f. was.sums f ∙ more_no no' f);
    room = was.room;
  }

module _ (job : JobValue) (placed : List Placement) (sound : IsSoundTable (record { job = job; placed = placed })) (test start : ℕ) (may : MayPlace job placed test start) where
  lasts_new : 1 ≤ cycles_of job test
  lasts_new = (sound.job.tests test no_test may.in_job).lasts

  room_in : (kind : Kind) (lines : List Timeline) → AreTimelines job placed kind lines → MayFill (timeline_of kind (test_at job test)) lines
  room_in kind lines are = record {
    inside = reach (timeline_of kind (test_at job test)) refl;
    starts = (λ k line is at. (are.each k line at).starts);
    room = (λ k line is at.
        let was = are.each k line at in
        let all = takers job (placed ++ at_start test start ∷ []) (sound_push job placed test start sound may) kind k in
        let more = more_yes job placed kind k (at_start test start) (takes_from (timeline_of kind (test_at job test)) k is) (λ s. 1) in
        omega (arith, was.room, was.sums (λ s. 1), ones line.spans.items, all, more, takers_have_room kind k job.tests));
  }
    where
      reach : (o : Option ℕ) → timeline_of kind (test_at job test) ≡ o → IfSome o (λ k. k < length lines)
      reach None is = tt
      reach (Some k) is = are.reach test k may.in_job is

  pub may_add : (times : Timelines) → AreTimes job placed times → MayAdd times (busy_places (test_at job test))
  may_add times are = record {
    bus = room_in Bus times.buses.items are.buses;
    own = room_in Own times.modules.items are.modules;
    parent = room_in Children times.children.items are.children;
    latest = rw are.latest.long (room_in Children times.children.items are.children).inside;
    room = omega (arith, are.latest.levels, are.latest.room, trail_has_room job placed test start sound may);
  }

  lines_more : (kind : Kind) (old new : List Timeline) → AreTimelines job placed kind old → ArePut (timeline_of kind (test_at job test)) (span_of job (at_start test start)) old new → AreTimelines job (placed ++ at_start test start ∷ []) kind new
  lines_more kind old new are put = record {
    many = omega (arith, are.many, put.long);
    reach = (λ other k inside is. let lt = are.reach other k inside is in omega (arith, lt, put.long));
    each = (λ k line at. elim (cases_Bool (takes kind k (test_at job test))) [
      | inl yes' ↦
          let r = put.here k line (takes_is (timeline_of kind (test_at job test)) k yes') at in
          let was = are.each k r.0 r.1 in
          line_more job placed kind k (at_start test start) r.0 line was yes' (let lasts = lasts_new in omega arith)
          (λ i s at'. ltb-from (spans_none job placed kind k r.0.spans.items was.sums (λ (s : Span). nat_le s.to s.from) (λ n p at'' yes''. let lasts = lasts_of job placed sound n p at'' in lt-leb (end_of job p) p.start (omega arith)) i s at'))
          (λ alone. clear_line job placed sound kind k r.0 was test start lasts_new (λ u yes''. alone_exclude kind k u (test_at job test) alone yes'' yes') may.fits.apart) r.2 r.3
      | inr no' ↦ line_kept job placed kind k (at_start test start) line (are.each k line (put.others k line (takes_not (timeline_of kind (test_at job test)) k no') at)) no'
    ]);
  }
    where
      ltb-from : {a b : ℕ} → nat_le b a ≡ false → a < b
      ltb-from {a} {b} h = leb-false b a h

  pub times_more : (old new : Timelines) → AreTimes job placed old → IsAdded (busy_places (test_at job test)) (span_of job (at_start test start)) old new → AreTimes job (placed ++ at_start test start ∷ []) new
  times_more old new are added = record {
    buses = lines_more Bus old.buses.items new.buses.items are.buses added.bus;
    modules = lines_more Own old.modules.items new.modules.items are.modules added.own;
    children = lines_more Children old.children.items new.children.items are.children added.parent;
    latest = rw added.parent.long (latest_more job placed (at_start test start) (length old.children.items) old.latest new.latest are.latest (room_in Children old.children.items are.children).inside added.latest);
  }

-- ---- one test less

module _ (job : JobValue) (placed : List Placement) (p : Placement) (inside : p.test < length job.tests) where
  there_in : (kind : Kind) (lines : List Timeline) → AreTimelines job (placed ++ p ∷ []) kind lines → MayClear (timeline_of kind (test_at job p.test)) (span_of job p) lines
  there_in kind lines are = record {
    inside = reach (timeline_of kind (test_at job p.test)) refl;
    starts = (λ k line is at. (are.each k line at).starts);
    there = (λ k line is at. span_there job (placed ++ p ∷ []) kind k line.spans.items (are.each k line at).sums (length placed) p (at_last placed p) (takes_from (timeline_of kind (test_at job p.test)) k is));
  }
    where
      reach : (o : Option ℕ) → timeline_of kind (test_at job p.test) ≡ o → IfSome o (λ k. k < length lines)
      reach None is = tt
      reach (Some k) is = are.reach p.test k inside is

  pub may_remove : (times : Timelines) → AreTimes job (placed ++ p ∷ []) times → MayRemove times (busy_places (test_at job p.test)) (span_of job p)
  may_remove times are = record {
    bus = there_in Bus times.buses.items are.buses;
    own = there_in Own times.modules.items are.modules;
    parent = there_in Children times.children.items are.children;
    latest = rw are.latest.long (there_in Children times.children.items are.children).inside;
    some = omega (arith, are.latest.levels, length-append placed (p ∷ []));
  }

  lines_less : (kind : Kind) (old new : List Timeline) → AreTimelines job (placed ++ p ∷ []) kind old → AreTaken (timeline_of kind (test_at job p.test)) (span_of job p) old new → AreTimelines job placed kind new
  lines_less kind old new are taken = record {
    many = omega (arith, are.many, taken.long);
    reach = (λ other k within is. let lt = are.reach other k within is in omega (arith, lt, taken.long));
    each = (λ k line at. elim (cases_Bool (takes kind k (test_at job p.test))) [
      | inl yes' ↦ let r = taken.here k line (takes_is (timeline_of kind (test_at job p.test)) k yes') at in line_less job placed kind k p r.0 line (are.each k r.0 r.1) yes' r.2 r.3
      | inr no' ↦ line_left job placed kind k p line (are.each k line (taken.others k line (takes_not (timeline_of kind (test_at job p.test)) k no') at)) no'
    ]);
  }

  pub times_less : (old new : Timelines) → AreTimes job (placed ++ p ∷ []) old → IsRemoved (busy_places (test_at job p.test)) (span_of job p) old new → AreTimes job placed new
  times_less old new are removed = record {
    buses = lines_less Bus old.buses.items new.buses.items are.buses removed.bus;
    modules = lines_less Own old.modules.items new.modules.items are.modules removed.own;
    children = lines_less Children old.children.items new.children.items are.children removed.parent;
    latest = rw removed.parent.long (latest_less job placed p (length old.children.items) old.latest new.latest are.latest (there_in Children old.children.items are.children).inside removed.latest);
  }
