-- How many precedences of a test come from outside a prefix.
use Rattle.std.proofs.Common.{◌≡◌, inl, inr, ℕ, ◌+◌, ◌<◌, ◌≤◌, ◌^◌, Bool, true, false, cond, not, true≢false, List, [], ◌∷◌, ◌++◌, length, get_or, set, take, map, refl, sym, ◌∙◌, ap, subst, arith, slice_index_or, nat_eq, ◌||◌, ◌&&◌, if◌then◌else◌, All, Contains, filter, sum_by}
use Rattle.std.specs.List.{list_all}
use Rattle.std.proofs.lemmas.List.{length-map}
use Rattle.std.proofs.lemmas.Bool.{cases_Bool, cases_eq, eqb-true, eq-eqb, ne_eqb, and_from}
use Rattle.std.proofs.lemmas.List.Sums.{sum_by-cons, sum_by_more, sum_by-take-le, list_all-from_AllPass}
use Rattle.std.proofs.lemmas.List.Elements.{All-contains}
use Rattle.plan_model.proofs.Lists.{at_contains}
use Rattle.resource_table.specs.Jobs.{JobValue, Precedes}
use Rattle.live_tests.specs.declared.neighbours.Neighbours.{Neighbours}
use Rattle.live_tests.specs.Neighbours.{after, before}
use Rattle.resource_table.specs.Befores.{listed, tests_before}
use Rattle.resource_table.proofs.Befores.{before_from, set_at, set_other}
use Rattle.schedule_search.specs.Walks.{is_in, may_follow}
use Rattle.schedule_search.specs.Prefixes.{turned, tests_after, one_missing, missing_of, times_in, AreInRange, AreFollowers, AreMissing, AreLess}
use Rattle.schedule_search.proofs.Predecessors.{at_place}
use Rattle.schedule_search.proofs.Following.{in_from}
use Rattle.schedule_search.proofs.Outside.{is_in_push}
use Rattle.common_lemmas.proofs.Tests.{eq_turned}
use Rattle.common_lemmas.proofs.Lists.{set_length, contains_at, from_map}

abbrev pub one_of : ℕ → ℕ → ℕ
one_of t n = if nat_eq n t then 1 else 0

-- ---- a test more in the prefix

one_less : (path : List ℕ) (x t : ℕ) (p : ℕ × ℕ) → is_in path x ≡ false → nat_eq p.0 x ≡ true → one_missing (path ++ x ∷ []) t p + one_of t p.1 ≡ one_missing path t p
one_less path x t p new here =
    let same : p.0 ≡ x = eqb-true p.0 x here in
    let old : is_in path p.0 ≡ false = ap (is_in path) same ∙ new in
    let now : is_in (path ++ x ∷ []) p.0 ≡ true = is_in_push path x p.0 ∙ ap (λ b. b || nat_eq x p.0) old ∙ eq-eqb x p.0 (sym same) in
    elim (cases_Bool (nat_eq p.1 t)) [
      | inl yes' ↦ rw (yes', old, now) refl
      | inr no' ↦ rw no' refl
    ]

none_less : (path : List ℕ) (x t : ℕ) (p : ℕ × ℕ) → nat_eq p.0 x ≡ false → one_missing (path ++ x ∷ []) t p ≡ one_missing path t p
none_less path x t p apart =
    let other : nat_eq x p.0 ≡ false = ne_eqb x p.0 (λ e. true≢false (sym (eq-eqb p.0 x (sym e)) ∙ apart)) in
    let now : is_in (path ++ x ∷ []) p.0 ≡ is_in path p.0 = is_in_push path x p.0 ∙ ap (λ b. is_in path p.0 || b) other ∙ or_false (is_in path p.0) in
    ap (λ b. if nat_eq p.1 t && not b then 1 else 0) now
  where
    or_false : (b : Bool) → (b || false) ≡ b
    or_false true = refl
    or_false false = refl

missing-less : (path : List ℕ) (x t : ℕ) (pairs : List (ℕ × ℕ)) → is_in path x ≡ false → sum_by (one_missing (path ++ x ∷ []) t) pairs + times_in (tests_after x pairs) t ≡ sum_by (one_missing path t) pairs
missing-less path x t [] new = refl
missing-less path x t (p ∷ pairs) new =
    let ih = missing-less path x t pairs new in
    let a = sum_by-cons (one_missing (path ++ x ∷ []) t) p pairs in
    let b = sum_by-cons (one_missing path t) p pairs in
    elim (cases_Bool (nat_eq p.0 x)) [
      | inl yes' ↦
          let one = one_less path x t p new yes' in
          let after : times_in (tests_after x (p ∷ pairs)) t ≡ one_of t p.1 + times_in (tests_after x pairs) t = rw yes' (sum_by-cons (one_of t) p.1 (tests_after x pairs)) in
          omega (arith, ih, a, b, one, after)
      | inr no' ↦
          let one = none_less path x t p no' in
          let after : times_in (tests_after x (p ∷ pairs)) t ≡ times_in (tests_after x pairs) t = rw no' refl in
          omega (arith, ih, a, b, one, after)
    ]

pub missing_less : (job : JobValue) (path : List ℕ) (x t : ℕ) → is_in path x ≡ false → missing_of job (path ++ x ∷ []) t + times_in (tests_after x job.before) t ≡ missing_of job path t
missing_less job path x t new = missing-less path x t job.before new

pub missing_added : (job : JobValue) (path old new : List ℕ) (x : ℕ) (after : List ℕ) → AreMissing job path old → AreLess old new after → after ≡ tests_after x job.before → is_in path x ≡ false → AreMissing job (path ++ x ∷ []) new
missing_added job path old new x after missing less is apart = record {
  long = less.long ∙ missing.long;
  are = λ t within. (
      let one = less.are t (omega (arith, within, missing.long)) in
      let two = missing.are t within in
      let three = missing_less job path x t apart in
      let four : times_in after t ≡ times_in (tests_after x job.before) t = ap (λ l. times_in l t) is in
      omega (arith, one, two, three, four));
}

pub missing_taken : (job : JobValue) (path old new : List ℕ) (x : ℕ) (after : List ℕ) → AreMissing job (path ++ x ∷ []) old → AreLess new old after → after ≡ tests_after x job.before → is_in path x ≡ false → AreMissing job path new
missing_taken job path old new x after missing less is apart = record {
  long = sym less.long ∙ missing.long;
  are = λ t within. (
      let one = less.are t (omega (arith, within, missing.long, less.long)) in
      let two = missing.are t within in
      let three = missing_less job path x t apart in
      let four : times_in after t ≡ times_in (tests_after x job.before) t = ap (λ l. times_in l t) is in
      omega (arith, one, two, three, four));
}

-- no more than there are precedences
at_most_one : (b : Bool) → (if b then 1 else 0) ≤ 1
at_most_one true = omega arith
at_most_one false = omega arith

few : (path : List ℕ) (t : ℕ) (pairs : List (ℕ × ℕ)) → sum_by (one_missing path t) pairs ≤ length pairs
few path t [] = omega arith
few path t (p ∷ pairs) =
    let ih = few path t pairs in
    let a = sum_by-cons (one_missing path t) p pairs in
    let b : one_missing path t p ≤ 1 = at_most_one (nat_eq p.1 t && not (is_in path p.0)) in
    omega (arith, ih, a, b)

-- ---- whether none is missing

none-missing : (path : List ℕ) (t : ℕ) (pairs : List (ℕ × ℕ)) → sum_by (one_missing path t) pairs ≡ 0 → list_all (is_in path) (tests_before t pairs) ≡ true
none-missing path t [] none = refl
none-missing path t (p ∷ pairs) none =
    let a = sum_by-cons (one_missing path t) p pairs in
    let ih = none-missing path t pairs (omega (arith, a, none)) in
    let here : one_missing path t p ≡ 0 = omega (arith, a, none) in
    elim (cases_Bool (nat_eq p.1 t)) [
      | inl yes' ↦ elim (cases_Bool (is_in path p.0)) [
        | inl there ↦ rw (yes', there) ih
        | inr out ↦ absurd (let e = rw (yes', out) at here in omega (arith, e))
      ]
      | inr no' ↦ rw no' ih
    ]

missing-none : (path : List ℕ) (t : ℕ) (pairs : List (ℕ × ℕ)) → list_all (is_in path) (tests_before t pairs) ≡ true → sum_by (one_missing path t) pairs ≡ 0
missing-none path t [] all = refl
missing-none path t (p ∷ pairs) all = elim (cases_Bool (nat_eq p.1 t)) [
  | inl yes' ↦ elim (cases_Bool (is_in path p.0)) [
    | inl there ↦
        let ih = missing-none path t pairs (rw (yes', there) at all) in
        let here : one_missing path t p ≡ 0 = rw (yes', there) refl in
        omega (arith, ih, here, sum_by-cons (one_missing path t) p pairs)
    | inr out ↦ absurd (true≢false (sym (rw (yes', out) at all)))
  ]
  | inr no' ↦
      let ih = missing-none path t pairs (rw no' at all) in
      let here : one_missing path t p ≡ 0 = rw no' refl in
      omega (arith, ih, here, sum_by-cons (one_missing path t) p pairs)
]

pub follows_from : (job : JobValue) (path : List ℕ) (t : ℕ) → is_in path t ≡ false → missing_of job path t ≡ 0 → may_follow job path t ≡ true
follows_from job path t new none = and_from (not (is_in path t)) (list_all (is_in path) (tests_before t job.before)) (ap not new) (none-missing path t job.before none)

pub follows_not : (job : JobValue) (path : List ℕ) (t : ℕ) → (missing_of job path t ≡ 0 → ⊥) → may_follow job path t ≡ false
follows_not job path t some = elim (cases_Bool (list_all (is_in path) (tests_before t job.before))) [
  | inl all ↦ absurd (some (missing-none path t job.before all))
  | inr not_all ↦ ap (λ b. not (is_in path t) && b) not_all ∙ none (not (is_in path t))
]
  where
    none : (b : Bool) → (b && false) ≡ false
    none true = refl
    none false = refl

-- a test that comes after all of its predecessors misses none
pub missing_ready : (job : JobValue) (path : List ℕ) (t : ℕ) → ((earlier : ℕ) → Precedes job earlier t → Contains path earlier) → missing_of job path t ≡ 0
missing_ready job path t after = missing-none path t job.before (list_all-from_AllPass (is_in path) (tests_before t job.before) (λ k d less.
    in_from path (get_or (tests_before t job.before) k d) (after (get_or (tests_before t job.before) k d) (before_from job.before (get_or (tests_before t job.before) k d) t (at_place (tests_before t job.before) k d less)))))

-- ---- counting down and up

pub times_more : (places : List ℕ) (i n : ℕ) → i < length places → times_in (take (i + 1) places) n ≡ times_in (take i places) n + one_of n (get_or places i 0)
times_more places i n within = sum_by_more (one_of n) places i 0 within

pub one_here : (n m : ℕ) → m ≡ n → one_of n m ≡ 1
one_here n m same = ap (λ b. if b then 1 else 0) (eq-eqb m n same)

-- the count of a place that is still to come isn't 0
pub some_left : (old now places : List ℕ) (i place : ℕ) → AreLess old now (take i places) → i < length places → place ≡ get_or places i 0 → place < length old → times_in places place ≤ slice_index_or old place 0 → 1 ≤ slice_index_or now place 0
some_left old now places i place less within is inside enough =
    let here = less.are place inside in
    let more = times_more places i place within in
    let one : one_of place (get_or places i 0) ≡ 1 = one_here place (get_or places i 0) (sym is) in
    let most : times_in (take (i + 1) places) place ≤ times_in places place = sum_by-take-le (one_of place) places (i + 1) in
    omega (arith, here, more, one, most, enough)

pub more_fits : (old now places : List ℕ) (i place : ℕ) → AreLess now old (take i places) → i < length places → place ≡ get_or places i 0 → place < length now → slice_index_or old place 0 + times_in places place < 2 ^ 64 → slice_index_or now place 0 + 1 < 2 ^ 64
more_fits old now places i place less within is inside small =
    let here = less.are place inside in
    let more = times_more places i place within in
    let one : one_of place (get_or places i 0) ≡ 1 = one_here place (get_or places i 0) (sym is) in
    let most : times_in (take (i + 1) places) place ≤ times_in places place = sum_by-take-le (one_of place) places (i + 1) in
    omega (arith, here, more, one, most, small)

-- one count less of a test, and one more
pub less_more : (old now places : List ℕ) (i test v : ℕ) → AreLess old now (take i places) → i < length places → test ≡ get_or places i 0 → test < length old → v + 1 ≡ slice_index_or now test 0 → AreLess old (set now test v) (take (i + 1) places)
less_more old now places i test v less within is inside one = record {
  long = set_length now test v ∙ less.long;
  are = λ n known. (
      let before = less.are n known in
      let more = times_more places i n within in
      elim (cases_eq n test) [
        | inl same ↦
            let here : one_of n (get_or places i 0) ≡ 1 = one_here n (get_or places i 0) (sym is ∙ sym same) in
            let new : slice_index_or (set now test v) n 0 ≡ v = set_at now test n v 0 (omega (arith, inside, less.long)) same in
            let old' : slice_index_or now n 0 ≡ v + 1 = ap (λ k. slice_index_or now k 0) same ∙ sym one in
            omega (arith, before, more, here, new, old')
        | inr apart ↦
            let none : one_of n (get_or places i 0) ≡ 0 = ap (λ b. if b then 1 else 0) (ne_eqb (get_or places i 0) n (λ e. apart (sym e ∙ sym is))) in
            let new : slice_index_or (set now test v) n 0 ≡ slice_index_or now n 0 = set_other now test n v 0 apart in
            omega (arith, before, more, none, new)
      ]);
}

pub more_more : (old now places : List ℕ) (i test v : ℕ) → AreLess now old (take i places) → i < length places → test ≡ get_or places i 0 → test < length now → v ≡ slice_index_or now test 0 + 1 → AreLess (set now test v) old (take (i + 1) places)
more_more old now places i test v less within is inside one = record {
  long = less.long ∙ sym (set_length now test v);
  are = λ n known. (
      let before = less.are n (omega (arith, known, set_length now test v)) in
      let more = times_more places i n within in
      elim (cases_eq n test) [
        | inl same ↦
            let here : one_of n (get_or places i 0) ≡ 1 = one_here n (get_or places i 0) (sym is ∙ sym same) in
            let new : slice_index_or (set now test v) n 0 ≡ v = set_at now test n v 0 inside same in
            let old' : slice_index_or now n 0 + 1 ≡ v = ap (λ k. slice_index_or now k 0 + 1) same ∙ sym one in
            omega (arith, before, more, here, new, old')
        | inr apart ↦
            let none : one_of n (get_or places i 0) ≡ 0 = ap (λ b. if b then 1 else 0) (ne_eqb (get_or places i 0) n (λ e. apart (sym e ∙ sym is))) in
            let new : slice_index_or (set now test v) n 0 ≡ slice_index_or now n 0 = set_other now test n v 0 apart in
            omega (arith, before, more, none, new)
      ]);
}

-- ---- as the code has them

-- the tests that a test precedes are tests of the job
pub after_known : (job : JobValue) (lists : List (List ℕ)) (x n : ℕ) (after : List ℕ) → AreInRange job → AreFollowers job lists → x < length job.tests → after ≡ slice_index_or lists x [] → n ≡ length job.tests → All (λ t. t < n) after
after_known job lists x n after in_range followers inside is long k d less =
    let there : Contains (tests_after x job.before) (get_or after k d) = subst (λ (l : List ℕ). Contains l (get_or after k d)) (is ∙ followers.are x inside) (at_place after k d less) in
    let pair : Contains (map turned job.before) (get_or after k d, x) = before_from (map turned job.before) (get_or after k d) x there in
    let at = contains_at (map turned job.before) (get_or after k d, x) pair in
    let f = from_map turned job.before at.0 (get_or after k d, x) at.1 in
    let range = All-contains (λ (p : ℕ × ℕ). (p.0 < length job.tests) × (p.1 < length job.tests)) job.before f.0 in_range (at_contains job.before at.0 f.0 f.1) in
    let second : (f.0).1 ≡ get_or after k d = ap (λ (p : ℕ × ℕ). p.0) f.2 in
    omega (arith, range.1, second, long)

pub enough_missing : (job : JobValue) (lists : List (List ℕ)) (path missing : List ℕ) (x n : ℕ) (after : List ℕ) → AreFollowers job lists → AreMissing job path missing → x < length job.tests → is_in path x ≡ false → after ≡ slice_index_or lists x [] → n < length missing → times_in after n ≤ slice_index_or missing n 0
enough_missing job lists path missing x n after followers are inside new is within =
    let one = are.are n (omega (arith, within, are.long)) in
    let two = missing_less job path x n new in
    let three : times_in after n ≡ times_in (tests_after x job.before) n = ap (λ l. times_in l n) (is ∙ followers.are x inside) in
    omega (arith, one, two, three)

pub small_missing : (job : JobValue) (lists : List (List ℕ)) (path missing : List ℕ) (x n : ℕ) (after : List ℕ) → AreFollowers job lists → AreMissing job (path ++ x ∷ []) missing → x < length job.tests → is_in path x ≡ false → after ≡ slice_index_or lists x [] → n < length missing → length job.before < 2 ^ 64
    → slice_index_or missing n 0 + times_in after n < 2 ^ 64
small_missing job lists path missing x n after followers are inside new is within small =
    let one = are.are n (omega (arith, within, are.long)) in
    let two = missing_less job path x n new in
    let three : times_in after n ≡ times_in (tests_after x job.before) n = ap (λ l. times_in l n) (is ∙ followers.are x inside) in
    let four = few path n job.before in
    omega (arith, one, two, three, four, small)

-- ---- the precedences as they are listed and counted

pub range_is : (job : JobValue) (pairs : List (ℕ × ℕ)) (count : ℕ) → AreInRange job → pairs ≡ job.before → count ≡ length job.tests → All (λ (p : ℕ × ℕ). (p.0 < count) × (p.1 < count)) pairs
range_is job pairs count in_range is long k d less =
    let range = subst (λ (l : List (ℕ × ℕ)). All (λ (p : ℕ × ℕ). (p.0 < length job.tests) × (p.1 < length job.tests)) l) (sym is) in_range k d less in
    (omega (arith, range.0, long), omega (arith, range.1, long))

-- what is listed beside the live tests are the tests that one precedes
after_is : (i : ℕ) (pairs : List (ℕ × ℕ)) → after i pairs ≡ tests_after i pairs
after_is i [] = refl
after_is i (p ∷ pairs) = by (nat_eq i p.0) (nat_eq p.0 i) (eq_turned i p.0) (after_is i pairs)
  where
    by : (b c : Bool) → b ≡ c → after i pairs ≡ tests_after i pairs → cond b (p.1 ∷ after i pairs) (after i pairs) ≡ map (λ (q : ℕ × ℕ). q.0) (cond c (turned p ∷ filter (λ (q : ℕ × ℕ). nat_eq q.1 i) (map turned pairs)) (filter (λ (q : ℕ × ℕ). nat_eq q.1 i) (map turned pairs)))
    by true true e rest = ap (λ (l : List ℕ). p.1 ∷ l) rest
    by true false e rest = absurd cc
    by false true e rest = absurd cc
    by false false e rest = rest

pub followers_are : (job : JobValue) (lists : List Neighbours) (count : ℕ) (pairs : List (ℕ × ℕ)) → count ≡ length job.tests → pairs ≡ job.before → length lists ≡ count → ((i : ℕ) → i < count → slice_index_or (map listed lists) i [] ≡ after i pairs) → AreFollowers job (map listed lists)
followers_are job lists count pairs count_is pairs_is long are = record {
  long = length-map lists listed ∙ long ∙ count_is;
  are = (λ test less. are test (omega (arith, less, count_is)) ∙ after_is test pairs ∙ ap (tests_after test) pairs_is);
}

-- what comes before a test is missing where no prefix is
missing_is : (t : ℕ) (pairs : List (ℕ × ℕ)) → length (before t pairs) ≡ sum_by (one_missing [] t) pairs
missing_is t [] = refl
missing_is t (p ∷ pairs) = by (nat_eq t p.1) (nat_eq p.1 t) (eq_turned t p.1) (missing_is t pairs) ∙ sym (sum_by-cons (one_missing [] t) p pairs)
  where
    by : (b c : Bool) → b ≡ c → length (before t pairs) ≡ sum_by (one_missing [] t) pairs → length (cond b (p.0 ∷ before t pairs) (before t pairs)) ≡ (if c && true then 1 else 0) + sum_by (one_missing [] t) pairs
    by true true e rest = omega (arith, rest)
    by true false e rest = absurd cc
    by false true e rest = absurd cc
    by false false e rest = omega (arith, rest)

pub missing_are : (job : JobValue) (missing : List ℕ) (count : ℕ) (pairs : List (ℕ × ℕ)) → count ≡ length job.tests → pairs ≡ job.before → length missing ≡ count → ((i : ℕ) → i < count → slice_index_or missing i 0 ≡ length (before i pairs)) → AreMissing job [] missing
missing_are job missing count pairs count_is pairs_is long are = record {
  long = long ∙ count_is;
  are = (λ test less. are test (omega (arith, less, count_is)) ∙ missing_is test pairs ∙ ap (sum_by (one_missing [] test)) pairs_is);
}
