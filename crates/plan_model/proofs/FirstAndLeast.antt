-- The first number of a stretch that passes, and the least value over a stretch.
use Rattle.std.proofs.Common.{◌≡◌, ℕ, zero, suc, ◌+◌, ◌≤◌, ◌<◌, Bool, true, false, ltb, refl, ap, sym, subst, arith, inl, inr}
use Rattle.std.specs.Prelude.{map}
use Rattle.std.specs.List.{position_or_len, range_with_len}
use Rattle.std.proofs.lemmas.Bool.{cases_Bool, cases_eq, lt-ltb, le-ltb}
use Rattle.plan_model.specs.Plans.{smallest}
use Rattle.plan_model.specs.Bounds.{least_from_one, first_below}

-- ---- the first number from `a` on, of `n`, that passes

first_is : (p : ℕ → Bool) (a n k : ℕ) → k ≤ n → ((v : ℕ) → a ≤ v → v < a + k → p v ≡ false) → (k < n → p (a + k) ≡ true) → position_or_len p (range_with_len a n) ≡ k
first_is p a zero k few before here = omega arith
first_is p a (suc n) zero few before here =
    let now : a + 0 ≡ a = omega arith in
    let passes : p a ≡ true = subst (λ (v : ℕ). p v ≡ true) now (here (omega arith)) in
    rw passes refl
first_is p a (suc n) (suc k) few before here =
    let fails : p a ≡ false = before a (omega arith) (omega arith) in
    let on : a + suc k ≡ a + 1 + k = omega arith in
    let ih : position_or_len p (range_with_len (a + 1) n) ≡ k = first_is p (a + 1) n k (omega arith) (λ v from to. before v (omega arith) (omega arith)) (λ less. subst (λ (v : ℕ). p v ≡ true) on (here (omega arith))) in
    rw fails (omega (arith, ih))

first-le : (p : ℕ → Bool) (a n v : ℕ) → a ≤ v → v < a + n → p v ≡ true → a + position_or_len p (range_with_len a n) ≤ v
first-le p a zero v from to passes = absurd (omega arith)
first-le p a (suc n) v from to passes = elim (cases_Bool (p a)) [
  | inl yes' ↦ rw yes' (omega arith)
  | inr no' ↦ elim (cases_eq v a) [
    | inl here ↦ let passes' : p a ≡ true = subst (λ (v : ℕ). p v ≡ true) here passes in absurd cc
    | inr other ↦
        let ih : a + 1 + position_or_len p (range_with_len (a + 1) n) ≤ v = first-le p (a + 1) n v (omega (arith, other)) (omega arith) passes in
        rw no' (omega (arith, ih))
  ]
]

first-most : (p : ℕ → Bool) (a n : ℕ) → position_or_len p (range_with_len a n) ≤ n
first-most p a zero = omega arith
first-most p a (suc n) = elim (cases_Bool (p a)) [
  | inl yes' ↦ rw yes' (omega arith)
  | inr no' ↦ rw no' (omega (arith, first-most p (a + 1) n))
]

first-same : (p q : ℕ → Bool) (a n : ℕ) → ((v : ℕ) → p v ≡ q v) → position_or_len p (range_with_len a n) ≡ position_or_len q (range_with_len a n)
first-same p q a zero same = refl
first-same p q a (suc n) same = rw (same a, first-same p q (a + 1) n same) refl

-- ---- the first width at which something is less than `b`

pub first_below_is : (f : ℕ → ℕ) (b n k : ℕ) → 1 ≤ k → k ≤ n + 1 → ((v : ℕ) → 1 ≤ v → v < k → b ≤ f v) → (k ≤ n → f k < b) → first_below f b n ≡ k
first_below_is f b n (suc k) some few before here =
    let on : 1 + k ≡ suc k = omega arith in
    let first : position_or_len (λ v. ltb (f v) b) (range_with_len 1 n) ≡ k =
    first_is (λ v. ltb (f v) b) 1 n k (omega arith) (λ v from to. le-ltb (f v) b (before v from (omega arith))) (λ less. subst (λ (v : ℕ). ltb (f v) b ≡ true) (sym on) (lt-ltb (f (suc k)) b (here (omega arith)))) in
    omega (arith, first)
first_below_is f b n zero some few before here = absurd (omega arith)

pub first_below-le : (f : ℕ → ℕ) (b n v : ℕ) → 1 ≤ v → v ≤ n → f v < b → first_below f b n ≤ v
first_below-le f b n v one within less = first-le (λ v. ltb (f v) b) 1 n v one (omega arith) (lt-ltb (f v) b less)

pub first_below-le_next : (f : ℕ → ℕ) (b n : ℕ) → first_below f b n ≤ n + 1
first_below-le_next f b n = omega (arith, first-most (λ v. ltb (f v) b) 1 n)

pub first_below-some : (f : ℕ → ℕ) (b n : ℕ) → 1 ≤ first_below f b n
first_below-some f b n = omega arith

pub first_below-same : (f g : ℕ → ℕ) (b n : ℕ) → ((v : ℕ) → f v ≡ g v) → first_below f b n ≡ first_below g b n
first_below-same f g b n same = rw (first-same (λ v. ltb (f v) b) (λ v. ltb (g v) b) 1 n (λ v. rw (same v) refl)) refl

-- ---- the least value over a stretch

smallest-le : (f : ℕ → ℕ) (a n v : ℕ) → a ≤ v → v < a + n → smallest (map f (range_with_len a n)) ≤ f v
smallest-le f a zero v from to = absurd (omega arith)
smallest-le f a (suc zero) v from to = let here : v ≡ a = omega arith in rw here (omega arith)
smallest-le f a (suc (suc n)) v from to = elim (cases_eq v a) [
  | inl here ↦ rw here (omega arith)
  | inr other ↦
      let ih : smallest (map f (range_with_len (a + 1) (suc n))) ≤ f v = smallest-le f (a + 1) (suc n) v (omega (arith, other)) (omega arith) in
      omega (arith, ih)
]

smallest-ge : (f : ℕ → ℕ) (b a n : ℕ) → 1 ≤ n → ((v : ℕ) → a ≤ v → v < a + n → b ≤ f v) → b ≤ smallest (map f (range_with_len a n))
smallest-ge f b a zero some all = absurd (omega arith)
smallest-ge f b a (suc zero) some all = all a (omega arith) (omega arith)
smallest-ge f b a (suc (suc n)) some all =
    let here : b ≤ f a = all a (omega arith) (omega arith) in
    let ih : b ≤ smallest (map f (range_with_len (a + 1) (suc n))) = smallest-ge f b (a + 1) (suc n) (omega arith) (λ v from to. all v (omega arith) (omega arith)) in
    omega (arith, here, ih)

pub least-le : (f : ℕ → ℕ) (n v : ℕ) → 1 ≤ v → v ≤ n → least_from_one f n ≤ f v
least-le f n v some within = smallest-le f 1 n v some (omega arith)

pub least-ge : (f : ℕ → ℕ) (b n : ℕ) → 1 ≤ n → ((v : ℕ) → 1 ≤ v → v ≤ n → b ≤ f v) → b ≤ least_from_one f n
least-ge f b n some all = smallest-ge f b 1 n some (λ v from to. all v from (omega arith))

map-same : (f g : ℕ → ℕ) (a n : ℕ) → ((v : ℕ) → f v ≡ g v) → map f (range_with_len a n) ≡ map g (range_with_len a n)
map-same f g a zero same = refl
map-same f g a (suc n) same = rw (same a, map-same f g (a + 1) n same) refl

pub least-same : (f g : ℕ → ℕ) (n : ℕ) → ((v : ℕ) → f v ≡ g v) → least_from_one f n ≡ least_from_one g n
least-same f g n same = ap smallest (map-same f g 1 n same)

-- where nothing is less than at one, that is the least
pub least-first : (f : ℕ → ℕ) (n : ℕ) → 1 ≤ n → ((v : ℕ) → 1 ≤ v → f 1 ≤ f v) → least_from_one f n ≡ f 1
least-first f n some all = omega (arith, least-le f n 1 (omega arith) some, least-ge f (f 1) n some (λ v from to. all v from))

pub least-zero : (f : ℕ → ℕ) (n : ℕ) → ((v : ℕ) → f v ≡ 0) → least_from_one f n ≡ 0
least-zero f zero none = refl
least-zero f (suc n) none = omega (arith, least-le f (suc n) 1 (omega arith) (omega arith), none 1)
