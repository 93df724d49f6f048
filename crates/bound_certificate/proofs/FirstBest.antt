-- The first test of greatest sum, as tests are looked at one by one.
use Rattle.std.proofs.Common.{◌≡◌, ◌⊎◌, inl, inr, ℕ, zero, suc, ◌+◌, ◌≤◌, ◌<◌, Bool, true, false, ◌&&◌, ◌||◌, nat_eq, nat_lt, Option, None, Some, List, [], ◌∷◌, ◌++◌, length, get_or, take, refl, sym, ap, ◌∙◌, subst, arith, slice_get, slice_index, if◌then◌else◌, Contains}
use Rattle.std.proofs.lemmas.Bool.{cases_lt, and_parts, or_cases, or_parts}
use Rattle.std.proofs.lemmas.Bool.Decides.{nat_tests}
use Rattle.std.proofs.lemmas.List.{take_more, take_all}
use Rattle.std.proofs.lemmas.List.Elements.{Contains-append_left, Contains-append_right, Contains-append_cases}
use Rattle.std.proofs.lemmas.Option.{slice_get_within}
use Rattle.plan_model.proofs.Lists.{at_contains}
use Rattle.bound_certificate.specs.Nodes.{NodeValue}
use Rattle.bound_certificate.specs.Chains.{IsNoBetter, IsBest, better_place, HasEarlier, HasEarlierBelow}
use Rattle.common_lemmas.proofs.Tests.{less_from_true}
use Rattle.common_lemmas.proofs.Lists.{contains_at}

lt_false : (a b : ℕ) → nat_lt a b ≡ false → b ≤ a
lt_false a b e = grind (arith, nat_tests)

eq_true : (a b : ℕ) → nat_eq a b ≡ true → a ≡ b
eq_true a b e = grind (arith, nat_tests)

eq_false : (a b : ℕ) → nat_eq a b ≡ false → a ≡ b → ⊥
eq_false a b e same = grind (arith, nat_tests)

-- which of two tests is better
wins : (a b i j : ℕ) → nat_lt a b || (nat_eq b a && nat_lt j i) ≡ true → (a < b) ⊎ ((b ≡ a) × (j < i))
wins a b i j e = elim (or_cases (nat_lt a b) (nat_eq b a && nat_lt j i) e) [
  | inl less ↦ inl (less_from_true a b less)
  | inr both ↦ let p = and_parts (nat_eq b a) (nat_lt j i) both in inr (eq_true b a p.0, less_from_true j i p.1)
]

loses : (a b i j : ℕ) → nat_lt a b || (nat_eq b a && nat_lt j i) ≡ false → (b < a) ⊎ ((b ≡ a) × (i ≤ j))
loses a b i j e =
    let p = or_parts (nat_lt a b) (nat_eq b a && nat_lt j i) e in
    let least = lt_false a b p.0 in
    by (nat_eq b a) (nat_lt j i) refl refl least p.1
  where
    by : (s t : Bool) → nat_eq b a ≡ s → nat_lt j i ≡ t → b ≤ a → s && t ≡ false → (b < a) ⊎ ((b ≡ a) × (i ≤ j))
    by true true f g least e = cc
    by true false f g least e = inr (eq_true b a f, lt_false j i g)
    by false t f g least e = elim (cases_lt b a) [
      | inl less ↦ inl less
      | inr most ↦ absurd (eq_false b a f (omega (arith, least, most)))
    ]

pub best_more : (sums : List ℕ) (P Q : ℕ → Type 0) (best : Option ℕ) (place : ℕ) → IsBest sums P best → ((p : ℕ) → P p → Q p) → Q place → ((p : ℕ) → Q p → P p ⊎ (p ≡ place)) → IsBest sums Q (better_place sums best place)
best_more sums P Q None place none more here only = (here, λ p q. new p (only p q))
  where
    new : (p : ℕ) → P p ⊎ (p ≡ place) → IsNoBetter sums place p
    new p (inl old) = absurd (none p old)
    new p (inr same) = inr (ap (slice_index sums) same, omega (arith, same))
best_more sums P Q (Some b) place best more here only = by (nat_lt (slice_index sums b) (slice_index sums place) || (nat_eq (slice_index sums place) (slice_index sums b) && nat_lt place b)) refl
  where
    by : (t : Bool) → nat_lt (slice_index sums b) (slice_index sums place) || (nat_eq (slice_index sums place) (slice_index sums b) && nat_lt place b) ≡ t → IsBest sums Q (if t then Some place else Some b)
    by true e = (here, λ p q. new p (only p q) (wins (slice_index sums b) (slice_index sums place) b place e))
      where
        after : (p : ℕ) → IsNoBetter sums b p → (slice_index sums b < slice_index sums place) ⊎ ((slice_index sums place ≡ slice_index sums b) × (place < b)) → IsNoBetter sums place p
        after p (inl less) (inl w) = inl (omega (arith, less, w))
        after p (inl less) (inr w) = inl (omega (arith, less, w.0))
        after p (inr same) (inl w) = inl (omega (arith, same.0, w))
        after p (inr same) (inr w) = inr (omega (arith, same.0, w.0), omega (arith, same.1, w.1))

        new : (p : ℕ) → P p ⊎ (p ≡ place) → (slice_index sums b < slice_index sums place) ⊎ ((slice_index sums place ≡ slice_index sums b) × (place < b)) → IsNoBetter sums place p
        new p (inl old) w = after p (best.1 p old) w
        new p (inr same) w = inr (ap (slice_index sums) same, omega (arith, same))
    by false e = (more b best.0, λ p q. new p (only p q) (loses (slice_index sums b) (slice_index sums place) b place e))
      where
        new : (p : ℕ) → P p ⊎ (p ≡ place) → (slice_index sums place < slice_index sums b) ⊎ ((slice_index sums place ≡ slice_index sums b) × (b ≤ place)) → IsNoBetter sums b p
        new p (inl old) l = best.1 p old
        new p (inr same) l = subst (λ (p : ℕ). IsNoBetter sums b p) (sym same) l

pub best_same : (sums : List ℕ) (P Q : ℕ → Type 0) (best : Option ℕ) → IsBest sums P best → ((p : ℕ) → P p → Q p) → ((p : ℕ) → Q p → P p) → IsBest sums Q best
best_same sums P Q None none to from = λ p q. none p (from p q)
best_same sums P Q (Some b) best to from = (to b best.0, λ p q. best.1 p (from p q))

-- ---- over a list of tests

pub listed_more : (sums places : List ℕ) (k : ℕ) (best new : Option ℕ) → k < length places → IsBest sums (Contains (take k places)) best → new ≡ better_place sums best (get_or places k 0) → IsBest sums (Contains (take (k + 1) places)) new
listed_more sums places k best new less old is =
    subst (λ (o : Option ℕ). IsBest sums (Contains (take (k + 1) places)) o) (sym is)
    (subst (λ (l : List ℕ). IsBest sums (Contains l) (better_place sums best (get_or places k 0))) (sym (take_more places k 0 less))
    (best_more sums (Contains (take k places)) (Contains (take k places ++ get_or places k 0 ∷ [])) best (get_or places k 0) old
    (λ p c. Contains-append_left (take k places) (get_or places k 0 ∷ []) p c)
    (Contains-append_right (take k places) (get_or places k 0 ∷ []) (get_or places k 0) (at_contains (get_or places k 0 ∷ []) 0 (get_or places k 0) refl))
    (λ p c. only p (Contains-append_cases (take k places) (get_or places k 0 ∷ []) p c))))
  where
    only : (p : ℕ) → Contains (take k places) p ⊎ Contains (get_or places k 0 ∷ []) p → Contains (take k places) p ⊎ (p ≡ get_or places k 0)
    only p (inl c) = inl c
    only p (inr c) = inr (one (contains_at (get_or places k 0 ∷ []) p c))
      where
        one : (j : ℕ) × (slice_get (get_or places k 0 ∷ []) j ≡ Some p) → p ≡ get_or places k 0
        one (zero, e) = cc
        one (suc j, e) = cc

pub listed_all : (sums places : List ℕ) (k : ℕ) (best : Option ℕ) → length places ≤ k → IsBest sums (Contains (take k places)) best → IsBest sums (Contains places) best
listed_all sums places k best whole is = subst (λ (l : List ℕ). IsBest sums (Contains l) best) (take_all k places whole) is

-- ---- over all tests that others precede

pub below_skips : (sums : List ℕ) (nodes : List NodeValue) (k : ℕ) (n : NodeValue) (best : Option ℕ) → slice_get nodes k ≡ Some n → length n.before ≡ 0 → IsBest sums (HasEarlierBelow nodes k) best → IsBest sums (HasEarlierBelow nodes (k + 1)) best
below_skips sums nodes k n best at none is = best_same sums (HasEarlierBelow nodes k) (HasEarlierBelow nodes (k + 1)) best is (λ p h. record { less = omega (arith, h.less); has = h.has }) (λ p h. record { less = fewer p h (cases_lt p k); has = h.has })
  where
    some_is : (x y : NodeValue) → Some x ≡ Some y → x ≡ y
    some_is x y e = cc

    fewer : (p : ℕ) → HasEarlierBelow nodes (k + 1) p → (p < k) ⊎ (k ≤ p) → p < k
    fewer p h (inl less) = less
    fewer p h (inr most) =
        let same : p ≡ k = omega (arith, h.less, most) in
        let item : h.has.n ≡ n = some_is h.has.n n (sym h.has.at ∙ ap (slice_get nodes) same ∙ at) in
        let long : length h.has.n.before ≡ length n.before = ap (λ (m : NodeValue). length m.before) item in
        absurd (omega (arith, h.has.some, long, none))

pub below_more : (sums : List ℕ) (nodes : List NodeValue) (k : ℕ) (n : NodeValue) (best new : Option ℕ) → slice_get nodes k ≡ Some n → 1 ≤ length n.before → IsBest sums (HasEarlierBelow nodes k) best → new ≡ better_place sums best k → IsBest sums (HasEarlierBelow nodes (k + 1)) new
below_more sums nodes k n best new at some old is =
    subst (λ (o : Option ℕ). IsBest sums (HasEarlierBelow nodes (k + 1)) o) (sym is)
    (best_more sums (HasEarlierBelow nodes k) (HasEarlierBelow nodes (k + 1)) best k old (λ p h. record { less = omega (arith, h.less); has = h.has }) (record { less = omega arith; has = record { n = n; at = at; some = some } }) (λ p h. only p h (cases_lt p k)))
  where
    only : (p : ℕ) → HasEarlierBelow nodes (k + 1) p → (p < k) ⊎ (k ≤ p) → HasEarlierBelow nodes k p ⊎ (p ≡ k)
    only p h (inl less) = inl (record { less = less; has = h.has })
    only p h (inr most) = inr (omega (arith, h.less, most))

pub below_all : (sums : List ℕ) (nodes : List NodeValue) (k : ℕ) (best : Option ℕ) → length nodes ≤ k → IsBest sums (HasEarlierBelow nodes k) best → IsBest sums (HasEarlier nodes) best
below_all sums nodes k best whole is = best_same sums (HasEarlierBelow nodes k) (HasEarlier nodes) best is (λ p h. h.has) (λ p h. record { less = omega (arith, whole, slice_get_within nodes p h.n h.at); has = h })
