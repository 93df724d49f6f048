-- The top of the heap of chains is the first of the shortest.
use Rattle.std.proofs.Common.{◌≡◌, ℕ, zero, suc, ◌+◌, ◌≤◌, ◌<◌, Bool, true, Some, List, [], ◌∷◌, length, replicate, refl, ap, ◌∙◌, sym, arith, inl, inr, ◌⊎◌, eqb}
use Rattle.std.specs.Prelude.{slice_get, slice_index, slice_set, ◌&&◌}
use Rattle.std.specs.List.{sum_by, sum}
use Rattle.std.specs.List.Sorted.{IsPermutation}
use Rattle.std.specs.BinaryHeap.{IsUpperBound}
use Rattle.std.specs.declared.cmp.Reverse.{Reverse}
use Rattle.std.proofs.lemmas.Bool.{eqb-true, eq-eqb, and_parts}
use Rattle.std.proofs.lemmas.List.Sums.{sum_by-cons}
use Rattle.std.proofs.lemmas.List.Sorted.{sum_by-IsPermutation}
use Rattle.plan_model.proofs.Sums.{one_if}
use Rattle.plan_model.proofs.Sums.{item-le-sum_by, some_passes}
use Rattle.wrapper_design.specs.Entries.{entry_cmp, entries, HasEntries, Grows}
use Rattle.common_lemmas.proofs.Numbers.{not_less}

abbrev entry : ℕ → ℕ → Reverse (ℕ × ℕ)
entry x i = record { 0 = (x, i) }

abbrev is_entry : ℕ → ℕ → Reverse (ℕ × ℕ) → Bool
is_entry x i e = eqb e.0.0 x && eqb e.0.1 i

is_itself : (x i : ℕ) → is_entry x i (entry x i) ≡ true
is_itself x i = rw (eq-eqb x x refl, eq-eqb i i refl) refl

entry_at : (i : ℕ) (xs : List ℕ) (k : ℕ) → k < length xs → slice_get (entries i xs) k ≡ Some (entry (slice_index xs k) (i + k))
entry_at i [] k h = absurd (omega arith)
entry_at i (x ∷ xs) zero h = let e : i ≡ i + 0 = omega arith in ap (λ v. Some (entry x v)) e
entry_at i (x ∷ xs) (suc k) h = let e : (i + 1) + k ≡ i + suc k = omega arith in entry_at (i + 1) xs k (omega arith) ∙ ap (λ v. Some (entry (slice_index xs k) v)) e

from_entries : (i : ℕ) (xs : List ℕ) (k : ℕ) (e : Reverse (ℕ × ℕ)) → slice_get (entries i xs) k ≡ Some e → (k < length xs) × (e.0.0 ≡ slice_index xs k) × (e.0.1 ≡ i + k)
from_entries i [] k e at = absurd cc
from_entries i (x ∷ xs) zero e at =
    let same : entry x i ≡ e = cc in
    (omega arith, ap (λ (v : Reverse (ℕ × ℕ)). v.0.0) (sym same), ap (λ (v : Reverse (ℕ × ℕ)). v.0.1) (sym same) ∙ omega arith)
from_entries i (x ∷ xs) (suc k) e at = let r = from_entries (i + 1) xs k e at in (omega (arith, r.0), r.1, omega (arith, r.2))

-- an item of one list is in the other
found : (xs ys : List (Reverse (ℕ × ℕ))) → ((f : Reverse (ℕ × ℕ) → ℕ) → sum_by f xs ≡ sum_by f ys) → (n x i : ℕ) → slice_get xs n ≡ Some (entry x i) → (k : ℕ) × (e : Reverse (ℕ × ℕ)) × (slice_get ys k ≡ Some e) × (e.0.0 ≡ x) × (e.0.1 ≡ i)
found xs ys same n x i at =
    let one : one_if (is_entry x i (entry x i)) ≡ 1 = rw (is_itself x i) refl in
    let some : one_if (is_entry x i (entry x i)) ≤ sum_by (λ e. one_if (is_entry x i e)) xs = item-le-sum_by (λ e. one_if (is_entry x i e)) xs n (entry x i) at in
    let r = some_passes (is_entry x i) ys (omega (arith, same (λ e. one_if (is_entry x i e)))) in
    let parts = and_parts (eqb (r.1).0.0 x) (eqb (r.1).0.1 i) r.3 in
    (r.0, r.1, r.2, eqb-true (r.1).0.0 x parts.0, eqb-true (r.1).0.1 i parts.1)

bound_at : (x : Reverse (ℕ × ℕ)) (xs : List (Reverse (ℕ × ℕ))) → IsUpperBound entry_cmp x xs → (n : ℕ) (e : Reverse (ℕ × ℕ)) → slice_get xs n ≡ Some e → (x.0.0 < e.0.0) ⊎ ((e.0.0 ≡ x.0.0) × (x.0.1 ≤ e.0.1))
bound_at x [] h n e at = absurd cc
bound_at x (y ∷ ys) h zero e at = let same : y ≡ e = cc in rw (← same) (not_less y.0.0 x.0.0 y.0.1 x.0.1 h.0)
bound_at x (y ∷ ys) h (suc n) e at = bound_at x ys h.1 n e at

entries_set : (f : Reverse (ℕ × ℕ) → ℕ) (i : ℕ) (xs : List ℕ) (j v : ℕ) → j < length xs → sum_by f (entries i (slice_set xs j v)) + f (entry (slice_index xs j) (i + j)) ≡ sum_by f (entries i xs) + f (entry v (i + j))
entries_set f i [] j v h = absurd (omega arith)
entries_set f i (x ∷ xs) zero v h =
    let e : i + 0 ≡ i = omega arith in
    rw e (omega (arith, sum_by-cons f (entry v i) (entries (i + 1) xs), sum_by-cons f (entry x i) (entries (i + 1) xs)))
entries_set f i (x ∷ xs) (suc j) v h =
    let e : i + suc j ≡ (i + 1) + j = omega arith in
    rw e (omega (arith, entries_set f (i + 1) xs j v (omega arith), sum_by-cons f (entry x i) (entries (i + 1) (slice_set xs j v)), sum_by-cons f (entry x i) (entries (i + 1) xs)))

-- ---- a pop and a push

pub grows : (before rest after : List (Reverse (ℕ × ℕ))) (x j length' grown : ℕ) (loads : List ℕ) → HasEntries before loads → IsUpperBound entry_cmp (record { 0 = (x, j) }) before →
    IsPermutation before (record { 0 = (x, j) } ∷ rest) → IsPermutation (record { 0 = (grown, j) } ∷ rest) after → grown ≡ x + length' → Grows loads length' j grown × HasEntries after (slice_set loads j grown)
grows before rest after x j length' grown loads has bound popped pushed is =
    let here = found (entry x j ∷ rest) (entries 0 loads) (λ f. sum_by-IsPermutation f before (entry x j ∷ rest) popped ∙ has.sums f) 0 x j refl in
    let at = from_entries 0 loads here.0 here.1 here.2 in
    let place : here.0 ≡ j = omega (arith, at.2, here.4) in
    let within : j < length loads = omega (arith, at.0) in
    let load : slice_index loads j ≡ x = ap (slice_index loads) (sym place) ∙ sym at.1 ∙ here.3 in
    let other = λ (k : ℕ) (less : k < length loads).
    let r = found (entries 0 loads) before (λ f. sym (has.sums f)) k (slice_index loads k) (0 + k) (entry_at 0 loads k less) in
    let b = bound_at (entry x j) before bound r.0 r.1 r.2 in
    either (slice_index loads k) k x j (r.1).0.0 (r.1).0.1 r.3 (r.4 ∙ omega arith) b in (
      record {
        first = record {
          within = within;
          least = λ k less. rw load (least_of (slice_index loads k) k x j (other k less));
          first = λ k less. rw load (first_of (slice_index loads k) k x j (other k (omega arith)) less);
        };
        grown_is = is ∙ ap (λ v. v + length') (sym load);
      },
      record {
        sums = λ f.
            let p = sum_by-IsPermutation f before (entry x j ∷ rest) popped in
            let q = sum_by-IsPermutation f (entry grown j ∷ rest) after pushed in
            let s = entries_set f 0 loads j grown within in
            let a : f (entry (slice_index loads j) (0 + j)) ≡ f (entry x j) = ap f (same_entry (slice_index loads j) x (0 + j) j load (omega arith)) in
            let b : f (entry grown (0 + j)) ≡ f (entry grown j) = ap f (same_entry grown grown (0 + j) j refl (omega arith)) in
            omega (arith, p, q, s, has.sums f, sum_by-cons f (entry x j) rest, sum_by-cons f (entry grown j) rest);
      },
    )
  where
    same_entry : (x y i k : ℕ) → x ≡ y → i ≡ k → entry x i ≡ entry y k
    same_entry x y i k p q = ap (λ v. entry v i) p ∙ ap (entry y) q

    either : (l k x j a b : ℕ) → a ≡ l → b ≡ k → (x < a) ⊎ ((a ≡ x) × (j ≤ b)) → (x < l) ⊎ ((l ≡ x) × (j ≤ k))
    either l k x j a b p q (inl h) = inl (omega arith)
    either l k x j a b p q (inr h) = inr (omega (arith, h.0), omega (arith, h.1))

    least_of : (l k x j : ℕ) → (x < l) ⊎ ((l ≡ x) × (j ≤ k)) → x ≤ l
    least_of l k x j (inl h) = omega arith
    least_of l k x j (inr h) = omega (arith, h.0)

    first_of : (l k x j : ℕ) → (x < l) ⊎ ((l ≡ x) × (j ≤ k)) → k < j → x < l
    first_of l k x j (inl h) less = h
    first_of l k x j (inr h) less = absurd (omega (arith, h.1))

-- ---- the start

sum_entries_push : (f : Reverse (ℕ × ℕ) → ℕ) (i n : ℕ) → sum_by f (entries i (replicate (suc n) 0)) ≡ f (entry 0 (i + n)) + sum_by f (entries i (replicate n 0))
sum_entries_push f i zero = let e : i + 0 ≡ i = omega arith in rw e (sum_by-cons f (entry 0 i) [])
sum_entries_push f i (suc n) =
    let e : (i + 1) + n ≡ i + suc n = omega arith in
    let ih : sum_by f (entries (i + 1) (replicate (suc n) 0)) ≡ f (entry 0 (i + suc n)) + sum_by f (entries (i + 1) (replicate n 0)) = rw (← e) (sum_entries_push f (i + 1) n) in
    omega (arith, sum_by-cons f (entry 0 i) (entries (i + 1) (replicate (suc n) 0)), sum_by-cons f (entry 0 i) (entries (i + 1) (replicate n 0)))

pub entries_push : (before after : List (Reverse (ℕ × ℕ))) (n : ℕ) → HasEntries before (replicate n 0) → IsPermutation (record { 0 = (0, n) } ∷ before) after → HasEntries after (replicate (n + 1) 0)
entries_push before after n has perm =
    let e : n + 1 ≡ suc n = omega arith in
    let z : 0 + n ≡ n = omega arith in
    rw e (record {
      sums = λ f.
          let p = sum_by-IsPermutation f (entry 0 n ∷ before) after perm in
          let q : sum_by f (entries 0 (replicate (suc n) 0)) ≡ f (entry 0 n) + sum_by f (entries 0 (replicate n 0)) = rw z at (sum_entries_push f 0 n) in
          omega (arith, p, q, has.sums f, sum_by-cons f (entry 0 n) before);
    })

sum_entries : (i : ℕ) (xs : List ℕ) → sum_by (λ (e : Reverse (ℕ × ℕ)). e.0.0) (entries i xs) ≡ sum xs
sum_entries i [] = refl
sum_entries i (x ∷ xs) = let ih = sum_entries (i + 1) xs in omega (arith, ih, sum_by-cons (λ (e : Reverse (ℕ × ℕ)). e.0.0) (entry x i) (entries (i + 1) xs), sum_by-cons (λ v. v) x xs)

pub entries_total : (items : List (Reverse (ℕ × ℕ))) (loads : List ℕ) → HasEntries items loads → sum_by (λ (e : Reverse (ℕ × ℕ)). e.0.0) items ≡ sum loads
entries_total items loads has = has.sums (λ (e : Reverse (ℕ × ℕ)). e.0.0) ∙ sum_entries 0 loads
