-- Sorted lengths, and sums of their fronts.
use Rattle.std.proofs.Common.{◌≡◌, ℕ, zero, suc, ◌+◌, ◌-◌, ◌*◌, ◌≤◌, ◌<◌, false, List, [], ◌∷◌, ◌++◌, length, get_or, take, drop, refl, ap, ◌∙◌, sym, arith, inl, inr, ◌⊎◌}
use Rattle.std.specs.Prelude.{slice_index}
use Rattle.std.specs.List.{sum}
use Rattle.std.specs.List.Sorted.{IsPermutation, IsSorted}
use Rattle.std.specs.Ordering.{nat_cmp, is_lt}
use Rattle.std.proofs.lemmas.Bool.{cases_lt}
use Rattle.std.proofs.lemmas.Cmp.{nat_cmp_total}
use Rattle.std.proofs.lemmas.List.{take_more, take_all, take-append-le, length_push, get_or_push, get_or_append_left}
use Rattle.std.proofs.lemmas.List.Sums.{sum_by-cons, sum_by_push}
use Rattle.std.proofs.lemmas.List.Sorted.{sorted_far, ranks_by, sum_by-IsPermutation}
use Rattle.std.proofs.Math.Nat.{mul-le-mul_left}
use Rattle.std.proofs.lemmas.Map.Keys.{ge_from_not_lt}
use Rattle.proof_facts.specs.Packed.{rising}
use Rattle.proof_facts.specs.Fronts.{AreFronts, window}
use Rattle.proof_facts.proofs.Rising.{rises_by_place, rising-rises, one_rising, sum_by-rising}

-- what a sort makes
pub sorted_is : (xs ys : List ℕ) → IsPermutation xs ys → IsSorted nat_cmp ys → ys ≡ rising xs
sorted_is xs ys same up =
    one_rising ys (rising xs) (rises_by_place ys in_order) (rising-rises xs) (λ f. sum_by-IsPermutation f xs ys same ∙ sym (sum_by-rising f xs))
  where
    in_order : (i j : ℕ) → i ≤ j → j < length ys → get_or ys i 0 ≤ get_or ys j 0
    in_order i j le within =
        let far : is_lt (nat_cmp (get_or ys j 0) (get_or ys i 0)) ≡ false = sorted_far (λ x y. is_lt (nat_cmp x y)) (ranks_by nat_cmp_total (λ (x : ℕ). x)) ys up i j 0 le within in
        ge_from_not_lt (get_or ys j 0) (get_or ys i 0) far

-- ---- sums of fronts

pub front_split : (m n j : ℕ) (xs : List ℕ) → m ≡ n + j → sum (take m xs) ≡ sum (take n xs) + sum (take j (drop n xs))
front_split m zero j xs is = let same : m ≡ j = omega (arith, is) in rw same (omega arith)
front_split zero (suc n) j [] is = absurd (omega (arith, is))
front_split (suc m) (suc n) zero [] is = omega arith
front_split (suc m) (suc n) (suc j) [] is = omega arith
front_split zero (suc n) j (x ∷ xs) is = absurd (omega (arith, is))
front_split (suc m) (suc n) j (x ∷ xs) is =
    let a : sum (x ∷ take m xs) ≡ x + sum (take m xs) = sum_by-cons (λ v. v) x (take m xs) in
    let b : sum (x ∷ take n xs) ≡ x + sum (take n xs) = sum_by-cons (λ v. v) x (take n xs) in
    omega (arith, front_split m n j xs (omega (arith, is)))

pub window_is : (xs sums : List ℕ) (w k : ℕ) → AreFronts xs sums → 1 ≤ w → k * w < length xs →
    slice_index sums (length xs - (k * w + 1) + k + 1) ≡ slice_index sums (length xs - (k * w + 1)) + window xs w k
window_is xs sums w k fronts some more =
    let own : k * 1 ≤ k * w = mul-le-mul_left k some in
    let start : slice_index sums (length xs - (k * w + 1)) ≡ sum (take (length xs - (k * w + 1)) xs) = fronts.sums_are (length xs - (k * w + 1)) (omega arith) in
    let end : slice_index sums (length xs - (k * w + 1) + k + 1) ≡ sum (take (length xs - (k * w + 1) + k + 1) xs) = fronts.sums_are (length xs - (k * w + 1) + k + 1) (omega arith) in
    omega (arith, front_split (length xs - (k * w + 1) + k + 1) (length xs - (k * w + 1)) (k + 1) xs (omega arith))

-- one more number
pub next_front : (xs sums : List ℕ) (x : ℕ) → AreFronts xs sums → AreFronts (xs ++ x ∷ []) (sums ++ (sum xs + x) ∷ [])
next_front xs sums x fronts = record {
  long = omega (arith, fronts.long, length_push xs x, length_push sums (sum xs + x));
  sums_are = λ i le. at i (cases_lt i (length sums)) (omega (arith, le, length_push xs x));
}
  where
    at : (i : ℕ) → (i < length sums) ⊎ (length sums ≤ i) → i ≤ length xs + 1 → slice_index (sums ++ (sum xs + x) ∷ []) i ≡ sum (take i (xs ++ x ∷ []))
    at i (inl less) le = get_or_append_left sums ((sum xs + x) ∷ []) 0 i less ∙ fronts.sums_are i (omega (arith, fronts.long)) ∙ ap sum (sym (take-append-le i xs (x ∷ []) (omega (arith, fronts.long))))
    at i (inr past) le =
        get_or_push sums (sum xs + x) 0 i (omega (arith, fronts.long)) ∙ sym (sum_by_push (λ v. v) xs x) ∙ ap sum (sym (take_all i (xs ++ x ∷ []) (omega (arith, fronts.long, length_push xs x))))
