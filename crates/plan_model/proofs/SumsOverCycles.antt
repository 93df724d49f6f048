-- Sums over cycles and over tests, counted both ways.
use Rattle.std.proofs.Common.{◌≡◌, ℕ, zero, suc, ◌+◌, ◌-◌, ◌*◌, ◌≤◌, ◌<◌, min, Bool, true, List, [], ◌∷◌, length, ltb, leb, refl, ap, ◌∙◌, sym, arith, inl, inr, ◌⊎◌, eqb, take, add-one}
use Rattle.std.specs.Prelude.{◌&&◌, if◌then◌else◌, slice_index}
use Rattle.std.specs.List.{sum_by, sum}
use Rattle.std.proofs.lemmas.List.Sums.{sum_by-cons, sum_by_more}
use Rattle.std.proofs.lemmas.Bool.{lt-ltb, le-ltb, le-leb, lt-leb, cases_lt, cases_Bool, and_parts, leb-true, ltb-true, eq-eqb, ne_eqb, cases_eq}
use Rattle.plan_model.specs.Plans.{PlannedTest, is_active, end_of, IsActive}
use Rattle.plan_model.specs.Right.{IsAt}
use Rattle.plan_model.specs.Bounds.{sum_below}
use Rattle.plan_model.proofs.Sums.{one_if, at_most_one}

pub sum_below-same : (f g : ℕ → ℕ) (n : ℕ) → ((c : ℕ) → c < n → f c ≡ g c) → sum_below f n ≡ sum_below g n
unfolding sum_below
sum_below-same f g zero h = refl
sum_below-same f g (suc n) h =
    let last : f n ≡ g n = h n (omega arith) in
    let ih : sum_below f n ≡ sum_below g n = sum_below-same f g n (λ c l. h c (omega arith)) in
    omega arith

pub sum_below-add : (f g : ℕ → ℕ) (n : ℕ) → sum_below (λ c. f c + g c) n ≡ sum_below f n + sum_below g n
unfolding sum_below
sum_below-add f g zero = refl
sum_below-add f g (suc n) =
    let ih : sum_below (λ c. f c + g c) n ≡ sum_below f n + sum_below g n = sum_below-add f g n in
    omega arith

pub sum_below-zero : (n : ℕ) → sum_below (λ c. 0) n ≡ 0
unfolding sum_below
sum_below-zero zero = refl
sum_below-zero (suc n) =
    let ih : sum_below (λ c. 0) n ≡ 0 = sum_below-zero n in
    omega arith

pub sum_below-le : (f : ℕ → ℕ) (m n : ℕ) → ((c : ℕ) → c < n → f c ≤ m) → sum_below f n ≤ n * m
unfolding sum_below
sum_below-le f m zero h = omega arith
sum_below-le f m (suc n) h =
    let last : f n ≤ m = h n (omega arith) in
    let ih : sum_below f n ≤ n * m = sum_below-le f m n (λ c l. h c (omega arith)) in
    omega arith

-- counted by cycles or by items
pub sum_below-sum_by : {X : Type 0} (g : X → ℕ → ℕ) (xs : List X) (n : ℕ) → sum_below (λ c. sum_by (λ x. g x c) xs) n ≡ sum_by (λ x. sum_below (g x) n) xs
sum_below-sum_by g [] n = sum_below-zero n
sum_below-sum_by g (x ∷ xs) n =
    sum_below-same (λ c. sum_by (λ x. g x c) (x ∷ xs)) (λ c. g x c + sum_by (λ x. g x c) xs) n (λ c l. sum_by-cons (λ x. g x c) x xs)
    ∙ sum_below-add (g x) (λ c. sum_by (λ x. g x c) xs) n
    ∙ ap (λ v. sum_below (g x) n + v) (sum_below-sum_by g xs n)
    ∙ sym (sum_by-cons (λ x. sum_below (g x) n) x xs)

-- what a test gives at a cycle: `h` of the cycles since its start, while it is active
abbrev pub while_active : (ℕ → ℕ) → PlannedTest → ℕ → ℕ
while_active h t c = if is_active c t then h (c - t.start) else 0

pub sum_below-while_active : (h : ℕ → ℕ) (t : PlannedTest) (n : ℕ) → sum_below (while_active h t) n ≡ sum_below h (min (n - t.start) (length t.operations))
unfolding sum_below
sum_below-while_active h t zero =
    let none : min (0 - t.start) (length t.operations) ≡ 0 = omega arith in
    rw none refl
sum_below-while_active h t (suc n) =
    let ih : sum_below (while_active h t) n ≡ sum_below h (min (n - t.start) (length t.operations)) = sum_below-while_active h t n in
    rw ih (one_more (cases_lt n t.start) (cases_lt n (end_of t)))
  where
    one_more : (n < t.start) ⊎ (t.start ≤ n) → (n < end_of t) ⊎ (end_of t ≤ n) → sum_below h (min (n - t.start) (length t.operations)) + while_active h t n ≡ sum_below h (min (suc n - t.start) (length t.operations))
    one_more (inl early) _ =
        let a : min (n - t.start) (length t.operations) ≡ 0 = omega arith in
        let b : min (suc n - t.start) (length t.operations) ≡ 0 = omega arith in
        rw (a, b, lt-leb t.start n early) refl
    one_more (inr begun) (inl active) =
        let a : min (n - t.start) (length t.operations) ≡ n - t.start = omega arith in
        let b : min (suc n - t.start) (length t.operations) ≡ suc (n - t.start) = omega arith in
        rw (a, b, le-leb t.start n begun, lt-ltb n (t.start + length t.operations) active) refl
    one_more (inr begun) (inr over) =
        let a : min (n - t.start) (length t.operations) ≡ length t.operations = omega arith in
        let b : min (suc n - t.start) (length t.operations) ≡ length t.operations = omega arith in
        rw (a, b, le-leb t.start n begun, le-ltb n (t.start + length t.operations) over) (omega arith)

pub sum_while_active : (h : ℕ → ℕ) (t : PlannedTest) (n : ℕ) → end_of t ≤ n → sum_below (while_active h t) n ≡ sum_below h (length t.operations)
sum_while_active h t n within =
    let all : min (n - t.start) (length t.operations) ≡ length t.operations = omega arith in
    sum_below-while_active h t n ∙ ap (sum_below h) all

pub sum_below-one : (n : ℕ) → sum_below (λ c. 1) n ≡ n
unfolding sum_below
sum_below-one zero = refl
sum_below-one (suc n) =
    let ih : sum_below (λ c. 1) n ≡ n = sum_below-one n in
    omega arith

-- ---- at most one at a time

-- active, as a fact
pub active_is : (c : ℕ) (t : PlannedTest) → is_active c t ≡ true → IsActive t c
active_is c t e =
    let p = and_parts (leb t.start c) (ltb c (end_of t)) e in
    (leb-true t.start c p.0, ltb-true c (end_of t) p.1)

-- the cycles of the tests that pass, which never meet and end by `n`
pub disjoint_bound : (q : PlannedTest → Bool) (tests : List PlannedTest) (n : ℕ) →
    ((i j c : ℕ) (t u : PlannedTest) → i < j → IsAt tests i t → IsAt tests j u → q t ≡ true → q u ≡ true → IsActive t c → IsActive u c → ⊥) →
    ((i : ℕ) (t : PlannedTest) → IsAt tests i t → end_of t ≤ n) →
    sum_by (λ t. if q t then length t.operations else 0) tests ≤ n
disjoint_bound q tests n apart ends =
    let by_tests : sum_below (λ c. sum_by (λ t. one_if (q t && is_active c t)) tests) n ≡ sum_by (λ t. sum_below (λ c. one_if (q t && is_active c t)) n) tests =
    sum_below-sum_by (λ t c. one_if (q t && is_active c t)) tests n in
    let few : sum_below (λ c. sum_by (λ t. one_if (q t && is_active c t)) tests) n ≤ n * 1 =
    sum_below-le (λ c. sum_by (λ t. one_if (q t && is_active c t)) tests) 1 n (λ c l. at_most_one (λ t. q t && is_active c t) tests
    (λ i j t u lt at at' pt pu. apart i j c t u lt at at' (and_parts (q t) (is_active c t) pt).0 (and_parts (q u) (is_active c u) pu).0 (active_is c t (and_parts (q t) (is_active c t) pt).1) (active_is c u (and_parts (q u) (is_active c u) pu).1))) in
    let lengths : sum_by (λ t. sum_below (λ c. one_if (q t && is_active c t)) n) tests ≡ sum_by (λ t. if q t then length t.operations else 0) tests = same_sum tests (λ i t at. ends i t at) in
    omega arith
  where
    each : (t : PlannedTest) → end_of t ≤ n → sum_below (λ c. one_if (q t && is_active c t)) n ≡ (if q t then length t.operations else 0)
    each t within = elim (cases_Bool (q t)) [
      | inl yes' ↦ rw yes' (sum_while_active (λ c. 1) t n within ∙ sum_below-one (length t.operations))
      | inr no' ↦ rw no' (sum_below-zero n)
    ]

    same_sum : (ts : List PlannedTest) → ((i : ℕ) (t : PlannedTest) → IsAt ts i t → end_of t ≤ n) → sum_by (λ t. sum_below (λ c. one_if (q t && is_active c t)) n) ts ≡ sum_by (λ t. if q t then length t.operations else 0) ts
    same_sum [] h = refl
    same_sum (t ∷ ts) h =
        sum_by-cons (λ t. sum_below (λ c. one_if (q t && is_active c t)) n) t ts
        ∙ ap (λ v. v + sum_by (λ t. sum_below (λ c. one_if (q t && is_active c t)) n) ts) (each t (h 0 t refl))
        ∙ ap (λ v. (if q t then length t.operations else 0) + v) (same_sum ts (λ i u at. h (suc i) u at))
        ∙ sym (sum_by-cons (λ t. if q t then length t.operations else 0) t ts)

-- ---- more sums over numbers

pub sum_below-mono : (f : ℕ → ℕ) (n m : ℕ) → n ≤ m → sum_below f n ≤ sum_below f m
unfolding sum_below
sum_below-mono f n zero h =
    let none : n ≡ 0 = omega arith in
    rw none (omega arith)
sum_below-mono f n (suc m) h = elim (cases_lt n (suc m)) [
  | inl less ↦
      let ih : sum_below f n ≤ sum_below f m = sum_below-mono f n m (omega arith) in
      omega arith
  | inr all ↦ let same : n ≡ suc m = omega arith in rw same (omega arith)
]

pub sum_below-le_by : (f g : ℕ → ℕ) (n : ℕ) → ((c : ℕ) → c < n → f c ≤ g c) → sum_below f n ≤ sum_below g n
unfolding sum_below
sum_below-le_by f g zero h = omega arith
sum_below-le_by f g (suc n) h =
    let last : f n ≤ g n = h n (omega arith) in
    let ih : sum_below f n ≤ sum_below g n = sum_below-le_by f g n (λ c l. h c (omega arith)) in
    omega arith

pub sum_below-const : (k n : ℕ) → sum_below (λ c. k) n ≡ n * k
unfolding sum_below
sum_below-const k zero = omega arith
sum_below-const k (suc n) =
    let ih : sum_below (λ c. k) n ≡ n * k = sum_below-const k n in
    omega arith

pub sum_below-indices : (ws : List ℕ) (n : ℕ) → n ≤ length ws → sum_below (slice_index ws) n ≡ sum (take n ws)
unfolding sum_below
sum_below-indices ws zero h = refl
sum_below-indices ws (suc n) h =
    let ih : sum_below (slice_index ws) n ≡ sum (take n ws) = sum_below-indices ws n (omega arith) in
    let more = rw add-one at (sum_by_more (λ x. x) ws n 0 (omega arith)) in
    omega (arith, ih, more)

-- the sum over all places of what is at one of them
pub none_at : (f : ℕ → ℕ) (x m : ℕ) → m ≤ x → sum_below (λ b. if eqb x b then f b else 0) m ≡ 0
unfolding sum_below
none_at f x zero h = refl
none_at f x (suc m) h =
    let ih : sum_below (λ b. if eqb x b then f b else 0) m ≡ 0 = none_at f x m (omega arith) in
    rw (ne_eqb x m (λ e. omega arith)) (omega arith)

pub indicator-le : (f : ℕ → ℕ) (x n : ℕ) → sum_below (λ b. if eqb x b then f b else 0) n ≤ f x
unfolding sum_below
indicator-le f x zero = omega arith
indicator-le f x (suc n) = elim (cases_eq x n) [
  | inl same ↦
      let before : sum_below (λ b. if eqb x b then f b else 0) n ≡ 0 = none_at f x n (omega arith) in
      let value : f x ≡ f n = ap f same in
      rw (eq-eqb x n same) (omega arith)
  | inr other ↦
      let ih : sum_below (λ b. if eqb x b then f b else 0) n ≤ f x = indicator-le f x n in
      rw (ne_eqb x n other) (omega arith)
]

pub le-indicator : (f : ℕ → ℕ) (x n : ℕ) → x < n → f x ≤ sum_below (λ b. if eqb x b then f b else 0) n
unfolding sum_below
le-indicator f x zero h = absurd (omega arith)
le-indicator f x (suc n) h = elim (cases_eq x n) [
  | inl same ↦
      let value : f x ≡ f n = ap f same in
      rw (eq-eqb x n same) (omega arith)
  | inr other ↦
      let ih : f x ≤ sum_below (λ b. if eqb x b then f b else 0) n = le-indicator f x n (omega arith) in
      rw (ne_eqb x n other) (omega arith)
]
