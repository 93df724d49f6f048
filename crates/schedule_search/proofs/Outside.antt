-- The tests outside a prefix, in the order in which they are tried.
use Rattle.std.proofs.Common.{◌≡◌, inl, inr, ℕ, zero, suc, ◌+◌, ◌<◌, ◌≤◌, Bool, true, false, not, true≢false, cond, Some, List, [], ◌∷◌, ◌++◌, length, get_or, take, drop, map, refl, sym, ◌∙◌, ap, subst, arith, length-append, set, slice_get, nat_eq, ◌||◌, ◌&&◌, All, filter, insert, remove}
use Rattle.std.proofs.lemmas.Bool.{cases_Bool, eq-eqb, ne_eqb}
use Rattle.std.proofs.lemmas.List.{take_at}
use Rattle.std.proofs.lemmas.List.Edits.{length-remove}
use Rattle.std.proofs.lemmas.List.Elements.{All-filter}
use Rattle.std.proofs.lemmas.Option.{slice_get_within, get_or_from_slice_get}
use Rattle.plan_model.proofs.Lists.{from_filter}
use Rattle.resource_table.specs.declared.Placement.{Placement}
use Rattle.resource_table.specs.Jobs.{JobValue, cycles_of}
use Rattle.resource_table.specs.Schedules.{is_placed}
use Rattle.schedule_search.specs.Walks.{goes_before, put_by_length, first_by_length, by_length, is_in, may_follow}
use Rattle.schedule_search.specs.Late.{AreUnplaced}
use Rattle.schedule_search.specs.Prefixes.{outside, followers, IsWithout}
use Rattle.schedule_search.proofs.Comparing.{AreInOrder, goes_to, first_in_order, first_within, first_has, in_order_at}
use Rattle.schedule_search.proofs.Following.{in_placed}
use Rattle.common_lemmas.proofs.Tests.{or_assoc, or_false_right, not_true}
use Rattle.common_lemmas.proofs.Options.{some_same}
use Rattle.common_lemmas.proofs.Lists.{in_filter}

-- ---- an item is put back

pub remove_next : (xs : List ℕ) (k d : ℕ) → suc k < length xs → set (remove xs k) k (get_or xs k d) ≡ remove xs (suc k)
remove_next [] k d within = absurd (omega (arith, within))
remove_next (x ∷ []) k d within = absurd (omega (arith, within))
remove_next (x ∷ y ∷ xs) zero d within = refl
remove_next (x ∷ y ∷ xs) (suc k) d within = ap (λ l. x ∷ l) (remove_next (y ∷ xs) k d (omega (arith, within)))

-- the last one
pub last_item : (xs : List ℕ) (x place : ℕ) → place ≡ length xs → (remove (xs ++ x ∷ []) place ≡ xs) × (get_or (xs ++ x ∷ []) place x ≡ x)
last_item [] x zero is = (refl, refl)
last_item [] x (suc place) is = absurd (omega (arith, is))
last_item (y ∷ xs) x zero is = absurd (omega (arith, is))
last_item (y ∷ xs) x (suc place) is = let rest = last_item xs x place (omega (arith, is)) in (ap (λ l. y ∷ l) rest.0, rest.1)

pub insert_removed : (xs : List ℕ) (k x : ℕ) → slice_get xs k ≡ Some x → insert (remove xs k) k x ≡ xs
insert_removed [] k x at = absurd cc
insert_removed (y ∷ xs) zero x at = ap (λ (n : ℕ). n ∷ xs) (sym (some_same y x at))
insert_removed (y ∷ xs) (suc k) x at = ap (λ l. y ∷ l) (insert_removed xs k x at)

-- ---- how many pass a test

pub filter_few : (p : ℕ → Bool) (xs : List ℕ) → length (filter p xs) ≤ length xs
filter_few p [] = omega arith
filter_few p (x ∷ xs) = let few = filter_few p xs in elim (cases_Bool (p x)) [
  | inl yes' ↦ rw yes' (omega (arith, few))
  | inr no' ↦ rw no' (omega (arith, few))
]

pub filter_fewer : (p : ℕ → Bool) (xs : List ℕ) (k x : ℕ) → slice_get xs k ≡ Some x → p x ≡ false → length (filter p xs) < length xs
filter_fewer p [] k x at out = absurd cc
filter_fewer p (y ∷ xs) zero x at out =
    let same : y ≡ x = cc in
    let none : p y ≡ false = ap p same ∙ out in
    let few = filter_few p xs in
    rw none (omega (arith, few))
filter_fewer p (y ∷ xs) (suc k) x at out = let fewer = filter_fewer p xs k x at out in elim (cases_Bool (p y)) [
  | inl yes' ↦ rw yes' (omega (arith, fewer))
  | inr no' ↦ rw no' (omega (arith, fewer))
]

-- ---- lists in the order of trying

pub order_filter : (job : JobValue) (p : ℕ → Bool) (xs : List ℕ) → AreInOrder job xs → AreInOrder job (filter p xs)
order_filter job p [] order = tt
order_filter job p (x ∷ xs) order = elim (cases_Bool (p x)) [
  | inl yes' ↦ rw yes' (All-filter p (λ u. goes_before job x u ≡ true) xs order.0, order_filter job p xs order.1)
  | inr no' ↦ rw no' (order_filter job p xs order.1)
]

pub never_itself : (job : JobValue) (x : ℕ) → goes_before job x x ≡ true → ⊥
never_itself job x e = elim (goes_to job x x e) [ inl more ↦ omega (arith, more) | inr same ↦ omega (arith, same.1) ]

-- ---- one test less

pub same_filter : (p q : ℕ → Bool) (xs : List ℕ) → ((k t : ℕ) → slice_get xs k ≡ Some t → p t ≡ q t) → filter p xs ≡ filter q xs
same_filter p q [] same = refl
same_filter p q (x ∷ xs) same =
    ap (λ b. cond b (x ∷ filter p xs) (filter p xs)) (same 0 x refl)
    ∙ ap (λ l. cond (q x) (x ∷ l) l) (same_filter p q xs (λ k t at. same (suc k) t at))

keeps_other : (p q : ℕ → Bool) (x t : ℕ) → IsWithout p q x → (x ≡ t → ⊥) → p t ≡ q t
keeps_other p q x t without apart = sym (without t ∙ ap (λ b. p t && not b) (ne_eqb x t apart) ∙ also (p t))
  where
    also : (b : Bool) → (b && true) ≡ b
    also true = refl
    also false = refl

drops_same : (p q : ℕ → Bool) (x t : ℕ) → IsWithout p q x → x ≡ t → q t ≡ false
drops_same p q x t without same = without t ∙ ap (λ b. p t && not b) (eq-eqb x t same) ∙ none (p t)
  where
    none : (b : Bool) → (b && false) ≡ false
    none true = refl
    none false = refl

pub from_all : (job : JobValue) (y : ℕ) (zs : List ℕ) (j t : ℕ) → slice_get zs j ≡ Some t → All (λ u. goes_before job y u ≡ true) zs → goes_before job y t ≡ true
from_all job y zs j t there all = subst (λ (n : ℕ). goes_before job y n ≡ true) (get_or_from_slice_get zs j t t there) (all j t (slice_get_within zs j t there))

pub filter_without : (job : JobValue) (p q : ℕ → Bool) (x : ℕ) (xs : List ℕ) (k : ℕ) → IsWithout p q x → AreInOrder job xs → slice_get (filter p xs) k ≡ Some x → filter q xs ≡ remove (filter p xs) k
filter_without job p q x [] k without order at = absurd cc
filter_without job p q x (y ∷ ys) zero without order at = elim (cases_Bool (p y)) [
  | inr no' ↦
      let out : q y ≡ false = without y ∙ ap (λ b. b && not (nat_eq x y)) no' in
      rw (no', out) (filter_without job p q x ys zero without order.1 (rw no' at at))
  | inl yes' ↦
      let same : x ≡ y = sym (some_same y x (rw yes' at at)) in
      let out : q y ≡ false = drops_same p q x y without same in
      rw (yes', out) (sym (same_filter p q ys (λ j t there. keeps_other p q x t without (λ e.
      never_itself job y (subst (λ (n : ℕ). goes_before job y n ≡ true) (sym e ∙ same) (from_all job y ys j t there order.0))))))
]
filter_without job p q x (y ∷ ys) (suc k) without order at = elim (cases_Bool (p y)) [
  | inr no' ↦
      let out : q y ≡ false = without y ∙ ap (λ b. b && not (nat_eq x y)) no' in
      rw (no', out) (filter_without job p q x ys (suc k) without order.1 (rw no' at at))
  | inl yes' ↦
      let there : slice_get (filter p ys) k ≡ Some x = rw yes' at at in
      let f = from_filter p ys k x there in
      let apart : x ≡ y → ⊥ = λ e. never_itself job y (subst (λ (n : ℕ). goes_before job y n ≡ true) e (from_all job y ys f.0 x f.1 order.0)) in
      let kept : q y ≡ true = sym (keeps_other p q x y without apart) ∙ yes' in
      rw (yes', kept) (ap (λ l. y ∷ l) (filter_without job p q x ys k without order.1 there))
]

-- ---- what stands in a prefix

pub is_in_push : (path : List ℕ) (x t : ℕ) → is_in (path ++ x ∷ []) t ≡ (is_in path t || nat_eq x t)
is_in_push [] x t = or_false_right (nat_eq x t)
is_in_push (y ∷ path) x t = ap (λ b. nat_eq y t || b) (is_in_push path x t) ∙ or_assoc (nat_eq y t) (is_in path t) (nat_eq x t)

not_or : (a b : Bool) → not (a || b) ≡ (not a && not b)
not_or true b = refl
not_or false b = refl

-- ---- the tests outside a prefix

pub known_at : (job : JobValue) (k x : ℕ) → slice_get (by_length job) k ≡ Some x → x < length job.tests
known_at job k x at = subst (λ (t : ℕ). t < length job.tests) (get_or_from_slice_get (by_length job) k x x at) (first_within job (length job.tests) k x (slice_get_within (by_length job) k x at))

-- what passes a test stands in order
pub passing_order : (job : JobValue) (p : ℕ → Bool) → AreInOrder job (filter p (by_length job))
passing_order job p = order_filter job p (by_length job) (first_in_order job (length job.tests))

pub outside_order : (job : JobValue) (path : List ℕ) → AreInOrder job (outside job path)
outside_order job path = passing_order job (λ test. not (is_in path test))

pub outside_more : (job : JobValue) (path : List ℕ) (k x : ℕ) → slice_get (outside job path) k ≡ Some x → outside job (path ++ x ∷ []) ≡ remove (outside job path) k
outside_more job path k x at =
    filter_without job (λ test. not (is_in path test)) (λ test. not (is_in (path ++ x ∷ []) test)) x (by_length job) k
    (λ t. ap not (is_in_push path x t) ∙ not_or (is_in path t) (nat_eq x t)) (first_in_order job (length job.tests)) at

-- a test that passes is one of the job
pub passing_at : (job : JobValue) (p : ℕ → Bool) (k x : ℕ) → slice_get (filter p (by_length job)) k ≡ Some x → (x < length job.tests) × (p x ≡ true)
passing_at job p k x at =
    let f = from_filter p (by_length job) k x at in
    (known_at job f.0 x f.1, f.2)

-- and one of the job that passes is among them
pub passing_has : (job : JobValue) (p : ℕ → Bool) (x : ℕ) → x < length job.tests → p x ≡ true → (k : ℕ) × (slice_get (filter p (by_length job)) k ≡ Some x)
passing_has job p x inside passes =
    let k = first_has job (length job.tests) x inside in
    in_filter p (by_length job) k.0 x k.1 passes

pub outside_at : (job : JobValue) (path : List ℕ) (k x : ℕ) → slice_get (outside job path) k ≡ Some x → (x < length job.tests) × (is_in path x ≡ false)
outside_at job path k x at =
    let f = passing_at job (λ test. not (is_in path test)) k x at in
    (f.0, not_true (is_in path x) f.1)

put_long : (job : JobValue) (test : ℕ) (tests : List ℕ) → length (put_by_length job test tests) ≡ suc (length tests)
put_long job test [] = refl
put_long job test (t ∷ tests) = elim (cases_Bool (goes_before job test t)) [
  | inl yes' ↦ rw yes' refl
  | inr no' ↦ rw no' (ap suc (put_long job test tests))
]

first_long : (job : JobValue) (count : ℕ) → length (first_by_length job count) ≡ count
first_long job zero = refl
first_long job (suc count) = put_long job count (first_by_length job count) ∙ ap suc (first_long job count)

all_pass : (xs : List ℕ) → filter (λ test. not (is_in [] test)) xs ≡ xs
all_pass [] = refl
all_pass (x ∷ xs) = ap (λ l. x ∷ l) (all_pass xs)

-- there are as many as the job has
pub all_long : (job : JobValue) → length (by_length job) ≡ length job.tests
all_long job = first_long job (length job.tests)

pub outside_none : (job : JobValue) → outside job [] ≡ by_length job
outside_none job = all_pass (by_length job)

pub outside_all : (job : JobValue) → length (outside job []) ≡ length job.tests
outside_all job = ap length (outside_none job) ∙ all_long job

pub outside_less : (job : JobValue) (path : List ℕ) (k x : ℕ) → slice_get (outside job path) k ≡ Some x → length (outside job (path ++ x ∷ [])) + 1 ≡ length (outside job path)
outside_less job path k x at = omega (arith, ap length (outside_more job path k x at), length-remove (outside job path) k (slice_get_within (outside job path) k x at))

-- ---- the tests that may follow are among them

filter_twice : (p q : ℕ → Bool) (xs : List ℕ) → ((t : ℕ) → q t ≡ true → p t ≡ true) → filter q (filter p xs) ≡ filter q xs
filter_twice p q [] both = refl
filter_twice p q (x ∷ xs) both = elim (cases_Bool (p x)) [
  | inl yes' ↦ elim (cases_Bool (q x)) [
    | inl also ↦ rw yes' (rw also (ap (λ l. x ∷ l) (filter_twice p q xs both)))
    | inr not_so ↦ rw yes' (rw not_so (filter_twice p q xs both))
  ]
  | inr no' ↦ elim (cases_Bool (q x)) [
    | inl also ↦ absurd (true≢false (sym (both x also) ∙ no'))
    | inr not_so ↦ rw no' (rw not_so (filter_twice p q xs both))
  ]
]

pub may_outside : (job : JobValue) (path : List ℕ) → filter (may_follow job path) (outside job path) ≡ followers job path
may_outside job path = filter_twice (λ test. not (is_in path test)) (may_follow job path) (by_length job) (λ t may. first (not (is_in path t)) _ may)
  where
    first : (a b : Bool) → (a && b) ≡ true → a ≡ true
    first true b e = refl
    first false b e = e

pub few_follow : (job : JobValue) (path : List ℕ) → length (followers job path) ≤ length (outside job path)
few_follow job path = omega (arith, filter_few (may_follow job path) (outside job path), ap length (may_outside job path))

-- ---- the last test of a prefix

pub front_same : (xs ys : List ℕ) (x y : ℕ) → xs ++ x ∷ [] ≡ ys ++ y ∷ [] → xs ≡ ys
front_same xs ys x y same =
    let long : length xs ≡ length ys = omega (arith, ap length same, length-append xs (x ∷ []), length-append ys (y ∷ [])) in
    sym (take_at xs (x ∷ []) (length ys) long) ∙ ap (take (length ys)) same ∙ take_at ys (y ∷ []) (length ys) refl

pub last_same : (xs ys : List ℕ) (x y : ℕ) → xs ++ x ∷ [] ≡ ys ++ y ∷ [] → x ≡ y
last_same xs ys x y same =
    let e : xs ++ x ∷ [] ≡ xs ++ y ∷ [] = same ∙ ap (λ (l : List ℕ). l ++ y ∷ []) (sym (front_same xs ys x y same)) in
    one (ap (drop (length xs)) e)
  where
    past : (zs : List ℕ) (z : ℕ) → drop (length zs) (zs ++ z ∷ []) ≡ z ∷ []
    past [] z = refl
    past (w ∷ zs) z = past zs z

    one : drop (length xs) (xs ++ x ∷ []) ≡ drop (length xs) (xs ++ y ∷ []) → x ≡ y
    one e = let f : x ∷ [] ≡ y ∷ [] = sym (past xs x) ∙ e ∙ past xs y in cc

-- ---- the tests that aren't placed

falls_from : (job : JobValue) (a b : ℕ) → goes_before job a b ≡ true → cycles_of job b ≤ cycles_of job a
falls_from job a b e = elim (goes_to job a b e) [ inl more ↦ omega (arith, more) | inr same ↦ omega (arith, same.0) ]

pub unplaced_outside : (job : JobValue) (placed : List Placement) (path rest : List ℕ) → map (λ (p : Placement). p.test) placed ≡ path → rest ≡ outside job path → AreUnplaced job placed rest
unplaced_outside job placed path rest is left = subst (AreUnplaced job placed) (sym left) (record {
  free = λ n test at. (let f = outside_at job path n test at in (f.0, sym (in_same test) ∙ f.1));
  whole = λ test inside free. (
      passing_has job (λ t. not (is_in path t)) test inside (ap not (in_same test ∙ free)));
  falls = λ m n test later less at at'. falls_from job test later
      (subst (λ (t : ℕ). goes_before job t later ≡ true) (get_or_from_slice_get (outside job path) m test 0 at)
      (subst (λ (t : ℕ). goes_before job (get_or (outside job path) m 0) t ≡ true) (get_or_from_slice_get (outside job path) n later 0 at') (in_order_at job (outside job path) m n 0 (outside_order job path) less (slice_get_within (outside job path) n later at'))));
})
  where
    in_same : (test : ℕ) → is_in path test ≡ is_placed placed test
    in_same test = ap (λ (l : List ℕ). is_in l test) (sym is) ∙ in_placed placed test

-- a test of the job that isn't in a prefix is outside
pub outside_has : (job : JobValue) (path : List ℕ) (test : ℕ) → test < length job.tests → is_in path test ≡ false → (n : ℕ) × (slice_get (outside job path) n ≡ Some test)
outside_has job path test inside new = passing_has job (λ t. not (is_in path t)) test inside (ap not new)
