-- The order in which tests are tried, by a sort: longest first, ties by place. There is one such list.
use Rattle.std.proofs.Common.{◌≡◌, ℕ, zero, suc, ◌+◌, ◌≤◌, ◌<◌, true, false, Some, List, [], ◌∷◌, ◌++◌, length, map, refl, ap, ◌∙◌, sym, arith, inl, inr, ◌⊎◌, eqb, ltb, get_or, zero-add, slice_get, sum_by, All}
use Rattle.std.specs.List.{range_with_len}
use Rattle.std.specs.List.Sorted.{IsPermutation, IsSorted}
use Rattle.std.specs.declared.cmp.Ordering.{Ordering}
use Rattle.std.specs.Ordering.{nat_cmp, ordering_then, is_lt}
use Rattle.std.proofs.lemmas.Bool.{cases_Bool, cases_lt, cases_eq, lt-ltb, le-ltb, eqb-true, eq-eqb}
use Rattle.std.proofs.lemmas.List.FromFn.{map-range_with_len_more}
use Rattle.std.proofs.lemmas.List.Sums.{sum_by-cons, sum_by_push}
use Rattle.std.proofs.lemmas.List.Sorted.{sum_by-IsPermutation, All-permutation}
use Rattle.std.proofs.lemmas.Option.{slice_get_within, get_or_from_slice_get}
use Rattle.plan_model.proofs.Sums.{one_if, item-le-sum_by, some_passes}
use Rattle.resource_table.specs.Jobs.{JobValue, cycles_of}
use Rattle.schedule_search.specs.declared.tries.TriedTest.{TriedTest}
use Rattle.schedule_search.specs.Walks.{goes_before, put_by_length, first_by_length, by_length}
use Rattle.schedule_search.proofs.Comparing.{AreInOrder, goes_to, first_in_order}
use Rattle.common_lemmas.proofs.Lists.{sum_map}
use Rattle.common_lemmas.proofs.Numbers.{not_less}
use Rattle.common_lemmas.proofs.Ranges.{range_push}

abbrev pub turn_at : JobValue → ℕ → TriedTest
turn_at job k = record { cycles = record { 0 = cycles_of job k }; place = k }

abbrev pub turn_cmp : TriedTest → TriedTest → Ordering
turn_cmp x y = ordering_then (nat_cmp y.cycles.0 x.cycles.0) (nat_cmp x.place y.place)

-- `c` may stand before `d`
pub data MayStandBefore (job : JobValue) (c d : ℕ) : Type 0 where
  Longer : cycles_of job d < cycles_of job c → MayStandBefore job c d
  Tie : cycles_of job d ≡ cycles_of job c → c ≤ d → MayStandBefore job c d

before_trans : (job : JobValue) (a b c : ℕ) → MayStandBefore job a b → MayStandBefore job b c → MayStandBefore job a c
before_trans job a b c (Longer p) (Longer q) = Longer (omega arith)
before_trans job a b c (Longer p) (Tie q r) = Longer (omega arith)
before_trans job a b c (Tie p r) (Longer q) = Longer (omega arith)
before_trans job a b c (Tie p r) (Tie q s) = Tie (omega arith) (omega arith)

both_before : (job : JobValue) (a b : ℕ) → MayStandBefore job a b → MayStandBefore job b a → a ≡ b
both_before job a b (Longer p) (Longer q) = absurd (omega arith)
both_before job a b (Longer p) (Tie q r) = absurd (omega arith)
both_before job a b (Tie p r) (Longer q) = absurd (omega arith)
both_before job a b (Tie p r) (Tie q s) = omega arith

abbrev pub InOrder : JobValue → List ℕ → Type 0
InOrder job [] = Unit {0}
InOrder job (c ∷ cs) = ((n d : ℕ) → slice_get cs n ≡ Some d → MayStandBefore job c d) × InOrder job cs

-- the tests as the definition puts them
stands : (job : JobValue) (a b : ℕ) → goes_before job a b ≡ true → MayStandBefore job a b
stands job a b e = elim (goes_to job a b e) [
  | inl more ↦ Longer more
  | inr same ↦ Tie (sym same.0) (let less = same.1 in omega arith)
]

weaker : (job : JobValue) (tests : List ℕ) → AreInOrder job tests → InOrder job tests
weaker job [] order = tt
weaker job (t ∷ tests) order = ((λ n d at. stands job t d (rw (← get_or_from_slice_get tests n d d at) (order.0 n d (slice_get_within tests n d at)))), weaker job tests order.1)

sum_put : (job : JobValue) (f : ℕ → ℕ) (test : ℕ) (tests : List ℕ) → sum_by f (put_by_length job test tests) ≡ f test + sum_by f tests
sum_put job f test [] = sum_by-cons f test []
sum_put job f test (t ∷ tests) = elim (cases_Bool (goes_before job test t)) [
  | inl yes' ↦ rw yes' (sum_by-cons f test (t ∷ tests))
  | inr no' ↦ rw no' (omega (arith, sum_put job f test tests, sum_by-cons f t (put_by_length job test tests), sum_by-cons f t tests))
]

same_item_map : (ns : List ℕ) → map (λ (n : ℕ). n) ns ≡ ns
same_item_map [] = refl
same_item_map (n ∷ ns) = ap (λ v. n ∷ v) (same_item_map ns)

sum_first : (job : JobValue) (f : ℕ → ℕ) (count : ℕ) → sum_by f (first_by_length job count) ≡ sum_by f (range_with_len 0 count)
sum_first job f zero = refl
sum_first job f (suc count) =
    let e : suc count ≡ count + 1 = omega arith in
    let whole : range_with_len 0 (suc count) ≡ range_with_len 0 count ++ count ∷ [] = sym (same_item_map (range_with_len 0 (suc count))) ∙ ap (λ (n : ℕ). map (λ (n : ℕ). n) (range_with_len 0 n)) e ∙ range_push (λ (n : ℕ). n) count ∙ ap (λ v. v ++ count ∷ []) (same_item_map (range_with_len 0 count)) in
    omega (arith, sum_put job f count (first_by_length job count), sum_first job f count, ap (sum_by f) whole, sum_by_push f (range_with_len 0 count) count)

-- ---- two such lists of the same places are one

holds_first : (job : JobValue) (x : ℕ) (xs : List ℕ) (y : ℕ) (ys : List ℕ) → ((f : ℕ → ℕ) → sum_by f (x ∷ xs) ≡ sum_by f (y ∷ ys)) → InOrder job (y ∷ ys) → (x ≡ y) ⊎ MayStandBefore job y x
holds_first job x xs y ys same order =
    let one : one_if (eqb x x) ≡ 1 = rw (eq-eqb x x refl) refl in
    let some : one_if (eqb x x) ≤ sum_by (λ z. one_if (eqb z x)) (x ∷ xs) = item-le-sum_by (λ z. one_if (eqb z x)) (x ∷ xs) 0 x refl in
    let r = some_passes (λ z. eqb z x) (y ∷ ys) (omega (arith, same (λ z. one_if (eqb z x)))) in
    there r.0 (r.2 ∙ ap Some (eqb-true r.1 x r.3))
  where
    there : (n : ℕ) → slice_get (y ∷ ys) n ≡ Some x → (x ≡ y) ⊎ MayStandBefore job y x
    there zero at = inl cc
    there (suc n) at = inr (order.0 n x at)

one_order : (job : JobValue) (xs ys : List ℕ) → ((f : ℕ → ℕ) → sum_by f xs ≡ sum_by f ys) → InOrder job xs → InOrder job ys → xs ≡ ys
one_order job [] [] same p q = refl
one_order job [] (y ∷ ys) same p q = absurd (omega (arith, same (λ z. 1), sum_by-cons (λ z. 1) y ys))
one_order job (x ∷ xs) [] same p q = absurd (omega (arith, same (λ z. 1), sum_by-cons (λ z. 1) x xs))
one_order job (x ∷ xs) (y ∷ ys) same p q =
    let e : x ≡ y = elim (holds_first job x xs y ys same q) [
      | inl e ↦ e
      | inr b ↦ elim (holds_first job y ys x xs (λ f. sym (same f)) p) [ inl e ↦ sym e | inr a ↦ both_before job x y a b ]
    ] in
    let rest : xs ≡ ys = one_order job xs ys (λ f. let fe : f x ≡ f y = ap f e in omega (arith, same f, sum_by-cons f x xs, sum_by-cons f y ys)) p.1 q.1 in
    cc

-- ---- what a sort leaves

in_order_from : (job : JobValue) (cs : List ℕ) → ((k c d : ℕ) → slice_get cs k ≡ Some c → slice_get cs (suc k) ≡ Some d → MayStandBefore job c d) → InOrder job cs
in_order_from job [] h = tt
in_order_from job (c ∷ []) h = (λ n d at. absurd cc, tt)
in_order_from job (c ∷ e ∷ es) h =
    let rest : InOrder job (e ∷ es) = in_order_from job (e ∷ es) (λ k c d at at'. h (suc k) c d at at') in
    (λ n d at. first (h 0 c e refl refl) rest.0 n d at, rest)
  where
    first : MayStandBefore job c e → ((n d : ℕ) → slice_get es n ≡ Some d → MayStandBefore job e d) → (n d : ℕ) → slice_get (e ∷ es) n ≡ Some d → MayStandBefore job c d
    first b later zero d at = let same : e ≡ d = cc in rw (← same) b
    first b later (suc n) d at = before_trans job c e d b (later n d at)

all_turn_at : (job : JobValue) (ns : List ℕ) → All (λ (t : TriedTest). t.cycles.0 ≡ cycles_of job t.place) (map (turn_at job) ns)
all_turn_at job [] k d h = absurd (omega arith)
all_turn_at job (n ∷ ns) zero d h = refl
all_turn_at job (n ∷ ns) (suc k) d h = all_turn_at job ns k d (omega arith)

places_of : (job : JobValue) (ns : List ℕ) → map (λ (t : TriedTest). t.place) (map (turn_at job) ns) ≡ ns
places_of job [] = refl
places_of job (n ∷ ns) = ap (λ v. n ∷ v) (places_of job ns)

-- a place of a list of places comes from a turn
from_place : (ys : List TriedTest) (k c : ℕ) (d : TriedTest) → slice_get (map (λ (t : TriedTest). t.place) ys) k ≡ Some c → (k < length ys) × ((get_or ys k d).place ≡ c)
from_place [] k c d at = absurd cc
from_place (y ∷ ys) zero c d at = (omega arith, cc)
from_place (y ∷ ys) (suc k) c d at = let r = from_place ys k c d at in (omega (arith, r.0), r.1)

neighbours : (job : JobValue) (ys : List TriedTest) → All (λ (t : TriedTest). t.cycles.0 ≡ cycles_of job t.place) ys → IsSorted turn_cmp ys → (k c d : ℕ) → slice_get (map (λ (t : TriedTest). t.place) ys) k ≡ Some c → slice_get (map (λ (t : TriedTest). t.place) ys) (suc k) ≡ Some d → MayStandBefore job c d
neighbours job ys all sorted k c d at at' =
    let x = from_place ys k c (turn_at job 0) at in
    let y = from_place ys (suc k) d (turn_at job 0) at' in
    let e : suc k ≡ k + 1 = omega arith in
    let y1 : (get_or ys (k + 1) (turn_at job 0)).place ≡ d = rw (← e) y.1 in
    let h = not_less (get_or ys k (turn_at job 0)).cycles.0 (get_or ys (k + 1) (turn_at job 0)).cycles.0 (get_or ys (k + 1) (turn_at job 0)).place (get_or ys k (turn_at job 0)).place (sorted k (turn_at job 0) (omega arith) (omega (arith, y.0))) in
    let lx : (get_or ys k (turn_at job 0)).cycles.0 ≡ cycles_of job c = all k (turn_at job 0) x.0 ∙ ap (cycles_of job) x.1 in
    let ly : (get_or ys (k + 1) (turn_at job 0)).cycles.0 ≡ cycles_of job d = all (k + 1) (turn_at job 0) (omega (arith, y.0)) ∙ ap (cycles_of job) y1 in
    elim h [
      | inl longer ↦ Longer (omega (arith, lx, ly))
      | inr tie ↦ Tie (omega (arith, lx, ly, tie.0)) (omega (arith, x.1, y1, tie.1))
    ]

pub order_from_sort : (job : JobValue) (xs ys : List TriedTest) → xs ≡ map (turn_at job) (range_with_len 0 (length job.tests)) → IsPermutation xs ys → IsSorted turn_cmp ys → map (λ (t : TriedTest). t.place) ys ≡ by_length job
order_from_sort job xs ys e perm sorted =
    let ok : All (λ (t : TriedTest). t.cycles.0 ≡ cycles_of job t.place) xs = rw e (all_turn_at job (range_with_len 0 (length job.tests))) in
    let all : All (λ (t : TriedTest). t.cycles.0 ≡ cycles_of job t.place) ys = All-permutation (λ (t : TriedTest). t.cycles.0 ≡ cycles_of job t.place) xs ys perm ok in
    let sums = λ (f : ℕ → ℕ).
    sum_map f (λ (t : TriedTest). t.place) ys ∙ sum_by-IsPermutation (λ (t : TriedTest). f t.place) xs ys perm ∙ sym (sum_map f (λ (t : TriedTest). t.place) xs)
    ∙ ap (sum_by f) (ap (map (λ (t : TriedTest). t.place)) e ∙ places_of job (range_with_len 0 (length job.tests)))
    ∙ sym (sum_first job f (length job.tests)) in
    one_order job (map (λ (t : TriedTest). t.place) ys) (by_length job) sums (in_order_from job (map (λ (t : TriedTest). t.place) ys) (neighbours job ys all sorted)) (weaker job (by_length job) (first_in_order job (length job.tests)))
