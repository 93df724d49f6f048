-- Tests are compared by their cycles and places, and orders by the first place where they differ.
use Rattle.std.proofs.Common.{◌≡◌, ◌⊎◌, inl, inr, ℕ, zero, suc, ◌<◌, ◌≤◌, true, false, Some, List, [], ◌∷◌, ◌++◌, length, get_or, take, refl, sym, ap, arith, nat_lt, nat_eq, slice_get, ◌||◌, ◌&&◌, All, insert}
use Rattle.std.proofs.lemmas.Bool.{cases_Bool, cases_order, eq-eqb, ne_eqb}
use Rattle.std.proofs.lemmas.Bool.Decides.{nat_tests}
use Rattle.std.proofs.lemmas.List.Elements.{All-nil, All-cons, All-head, All-tail, All-weaker}
use Rattle.resource_table.specs.Jobs.{JobValue, cycles_of}
use Rattle.schedule_search.specs.Walks.{goes_before, stands_before, put_by_length, first_by_length}

-- ---- two tests

before_to : (x y a b : ℕ) → (nat_lt y x || (nat_eq x y && nat_lt a b)) ≡ true → (y < x) ⊎ ((x ≡ y) × (a < b))
before_to x y a b e = elim (cases_order x y) [
  | inl same ↦ inr (same, grind (arith, nat_tests))
  | inr other ↦ elim other [
    | inl less ↦ absurd (grind (arith, nat_tests))
    | inr more ↦ inl more
  ]
]

before_from : (x y a b : ℕ) → (y < x) ⊎ ((x ≡ y) × (a < b)) → (nat_lt y x || (nat_eq x y && nat_lt a b)) ≡ true
before_from x y a b (inl more) = grind (arith, nat_tests)
before_from x y a b (inr same) = grind (arith, nat_tests)

not_before_to : (x y a b : ℕ) → (nat_lt y x || (nat_eq x y && nat_lt a b)) ≡ false → (x < y) ⊎ ((x ≡ y) × (b ≤ a))
not_before_to x y a b e = elim (cases_order x y) [
  | inl same ↦ inr (same, grind (arith, nat_tests))
  | inr other ↦ elim other [
    | inl less ↦ inl less
    | inr more ↦ absurd (grind (arith, nat_tests))
  ]
]

not_before_from : (x y a b : ℕ) → (x < y) ⊎ ((x ≡ y) × (b ≤ a)) → (nat_lt y x || (nat_eq x y && nat_lt a b)) ≡ false
not_before_from x y a b (inl less) = grind (arith, nat_tests)
not_before_from x y a b (inr same) = grind (arith, nat_tests)

pub goes_to : (job : JobValue) (a b : ℕ) → goes_before job a b ≡ true → (cycles_of job b < cycles_of job a) ⊎ ((cycles_of job a ≡ cycles_of job b) × (a < b))
goes_to job a b e = before_to (cycles_of job a) (cycles_of job b) a b e

pub goes_from : (job : JobValue) (a b : ℕ) → (cycles_of job b < cycles_of job a) ⊎ ((cycles_of job a ≡ cycles_of job b) × (a < b)) → goes_before job a b ≡ true
goes_from job a b e = before_from (cycles_of job a) (cycles_of job b) a b e

pub stays_to : (job : JobValue) (a b : ℕ) → goes_before job a b ≡ false → (cycles_of job a < cycles_of job b) ⊎ ((cycles_of job a ≡ cycles_of job b) × (b ≤ a))
stays_to job a b e = not_before_to (cycles_of job a) (cycles_of job b) a b e

pub stays_from : (job : JobValue) (a b : ℕ) → (cycles_of job a < cycles_of job b) ⊎ ((cycles_of job a ≡ cycles_of job b) × (b ≤ a)) → goes_before job a b ≡ false
stays_from job a b e = not_before_from (cycles_of job a) (cycles_of job b) a b e

pub stays_one : (job : JobValue) (a : ℕ) → goes_before job a a ≡ false
stays_one job a = stays_from job a a (inr (refl, omega arith))

-- never both ways
pub goes_one_way : (job : JobValue) (a b : ℕ) → goes_before job a b ≡ true → goes_before job b a ≡ false
goes_one_way job a b e = elim (goes_to job a b e) [
  | inl more ↦ stays_from job b a (inl more)
  | inr same ↦ stays_from job b a (inr (sym same.0, omega (arith, same.1)))
]

pub goes_on : (job : JobValue) (a b c : ℕ) → goes_before job a b ≡ true → goes_before job b c ≡ true → goes_before job a c ≡ true
goes_on job a b c e f = elim (goes_to job a b e) [
  | inl more ↦ elim (goes_to job b c f) [ inl more' ↦ goes_from job a c (inl (omega (arith, more, more'))) | inr same' ↦ goes_from job a c (inl (omega (arith, more, same'.0))) ]
  | inr same ↦ elim (goes_to job b c f) [ inl more' ↦ goes_from job a c (inl (omega (arith, same.0, more'))) | inr same' ↦ goes_from job a c (inr (omega (arith, same.0, same'.0), omega (arith, same.1, same'.1))) ]
]

-- of two different tests
pub other_way : (job : JobValue) (a b : ℕ) → goes_before job a b ≡ false → b < a → goes_before job b a ≡ true
other_way job a b e less = elim (stays_to job a b e) [
  | inl more ↦ goes_from job b a (inl more)
  | inr same ↦ goes_from job b a (inr (sym same.0, less))
]

-- ---- the order in which tests are tried

pub put_at : (job : JobValue) (test place : ℕ) (tests : List ℕ) → place ≤ length tests → All (λ t. goes_before job test t ≡ false) (take place tests) → (place < length tests → goes_before job test (get_or tests place 0) ≡ true) → insert tests place test ≡ put_by_length job test tests
put_at job test zero [] few after before = refl
put_at job test (suc place) [] few after before = absurd (omega (arith, few))
put_at job test zero (t ∷ tests) few after before = let here : goes_before job test t ≡ true = before (omega arith) in rw here refl
put_at job test (suc place) (t ∷ tests) few after before =
    let here : goes_before job test t ≡ false = All-head (λ t. goes_before job test t ≡ false) t (take place tests) after in
    let ih = put_at job test place tests (omega (arith, few)) (All-tail (λ t. goes_before job test t ≡ false) t (take place tests) after) (λ lt. before (omega (arith, lt))) in
    rw here (ap (λ l. t ∷ l) ih)

put_all : (job : JobValue) (P : ℕ → Type 0) (test : ℕ) (tests : List ℕ) → P test → All P tests → All P (put_by_length job test tests)
put_all job P test [] here all = All-cons P test [] here all
put_all job P test (t ∷ tests) here all = elim (cases_Bool (goes_before job test t)) [
  | inl yes' ↦ rw yes' (All-cons P test (t ∷ tests) here all)
  | inr no' ↦ rw no' (All-cons P t (put_by_length job test tests) (All-head P t tests all) (put_all job P test tests here (All-tail P t tests all)))
]

pub first_within : (job : JobValue) (count : ℕ) → All (λ t. t < count) (first_by_length job count)
first_within job zero = All-nil (λ t. t < 0)
first_within job (suc count) = put_all job (λ t. t < suc count) count (first_by_length job count) (omega arith) (All-weaker (λ t. t < count) (λ t. t < suc count) (λ t less. omega (arith, less)) (first_by_length job count) (first_within job count))

put_has : (job : JobValue) (test a : ℕ) (tests : List ℕ) → (a ≡ test) ⊎ ((k : ℕ) × (slice_get tests k ≡ Some a)) → (k : ℕ) × (slice_get (put_by_length job test tests) k ≡ Some a)
put_has job test a [] (inl same) = (0, ap Some (sym same))
put_has job test a [] (inr there) = absurd (let e = there.1 in cc)
put_has job test a (t ∷ tests) has = elim (cases_Bool (goes_before job test t)) [
  | inl yes' ↦ elim has [ inl same ↦ (0, rw yes' (ap Some (sym same))) | inr there ↦ (suc there.0, rw yes' there.1) ]
  | inr no' ↦ elim (first has) [
    | inl here ↦ (0, rw no' here)
    | inr later ↦ let r = put_has job test a tests later in (suc r.0, rw no' r.1)
  ]
]
  where
    first : (a ≡ test) ⊎ ((k : ℕ) × (slice_get (t ∷ tests) k ≡ Some a)) → (Some t ≡ Some a) ⊎ ((a ≡ test) ⊎ ((k : ℕ) × (slice_get tests k ≡ Some a)))
    first (inl same) = inr (inl same)
    first (inr (zero, e)) = inl e
    first (inr (suc k, e)) = inr (inr (k, e))

pub first_has : (job : JobValue) (count a : ℕ) → a < count → (k : ℕ) × (slice_get (first_by_length job count) k ≡ Some a)
first_has job zero a less = absurd (omega (arith, less))
first_has job (suc count) a less = put_has job count a (first_by_length job count) (elim (split a count less) [ inl same ↦ inl same | inr less' ↦ inr (first_has job count a less') ])
  where
    split : (a n : ℕ) → a < suc n → (a ≡ n) ⊎ (a < n)
    split a n less = grind (arith, less)

-- each goes before all that come after it
abbrev pub AreInOrder : JobValue → List ℕ → Type 0
AreInOrder job [] = Unit {0}
AreInOrder job (t ∷ tests) = All (λ u. goes_before job t u ≡ true) tests × AreInOrder job tests

put_in_order : (job : JobValue) (test : ℕ) (tests : List ℕ) → All (λ t. t < test) tests → AreInOrder job tests → AreInOrder job (put_by_length job test tests)
put_in_order job test [] below order = (All-nil (λ u. goes_before job test u ≡ true), tt)
put_in_order job test (t ∷ tests) below order = elim (cases_Bool (goes_before job test t)) [
  | inl yes' ↦ rw yes' (All-cons (λ u. goes_before job test u ≡ true) t tests yes' (All-weaker (λ u. goes_before job t u ≡ true) (λ u. goes_before job test u ≡ true) (λ u e. goes_on job test t u yes' e) tests order.0), order)
  | inr no' ↦ rw no' (put_all job (λ u. goes_before job t u ≡ true) test tests (other_way job test t no' (All-head (λ t. t < test) t tests below)) order.0, put_in_order job test tests (All-tail (λ t. t < test) t tests below) order.1)
]

pub first_in_order : (job : JobValue) (count : ℕ) → AreInOrder job (first_by_length job count)
first_in_order job zero = tt
first_in_order job (suc count) = put_in_order job count (first_by_length job count) (first_within job count) (first_in_order job count)

pub in_order_at : (job : JobValue) (tests : List ℕ) (i j d : ℕ) → AreInOrder job tests → i < j → j < length tests → goes_before job (get_or tests i d) (get_or tests j d) ≡ true
in_order_at job [] i j d order less within = absurd (omega (arith, within))
in_order_at job (t ∷ tests) i zero d order less within = absurd (omega (arith, less))
in_order_at job (t ∷ tests) zero (suc j) d order less within = order.0 j d (omega (arith, within))
in_order_at job (t ∷ tests) (suc i) (suc j) d order less within = in_order_at job tests i j d order.1 (omega (arith, less)) (omega (arith, within))

-- a test that is tried later doesn't go before
pub later_stays : (job : JobValue) (tests : List ℕ) (i j d : ℕ) → AreInOrder job tests → i < j → j < length tests → goes_before job (get_or tests j d) (get_or tests i d) ≡ false
later_stays job tests i j d order less within = goes_one_way job (get_or tests i d) (get_or tests j d) (in_order_at job tests i j d order less within)

-- ---- two orders

pub same_stays : (job : JobValue) (a : List ℕ) → stands_before job a a ≡ false
same_stays job [] = refl
same_stays job (x ∷ a) = rw (eq-eqb x x refl) (same_stays job a)

pub after_prefix : (job : JobValue) (prefix a b : List ℕ) → stands_before job (prefix ++ a) (prefix ++ b) ≡ stands_before job a b
after_prefix job [] a b = refl
after_prefix job (x ∷ prefix) a b = rw (eq-eqb x x refl) (after_prefix job prefix a b)

pub differ_here : (job : JobValue) (x y : ℕ) (a b : List ℕ) → (x ≡ y → ⊥) → stands_before job (x ∷ a) (y ∷ b) ≡ goes_before job x y
differ_here job x y a b apart = rw (ne_eqb x y apart) refl
