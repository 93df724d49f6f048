-- The tests before each test are counted pair by pair.
use Rattle.std.proofs.Common.{◌≡◌, ◌⊎◌, inl, inr, ℕ, ◌+◌, ◌<◌, ◌≤◌, List, [], ◌∷◌, length, get_or, take, Bool, true, false, cond, nat_eq, refl, sym, ◌∙◌, ap, arith}
use Rattle.std.specs.Prelude.{slice_index_or, slice_set}
use Rattle.std.specs.List.{All}
use Rattle.std.proofs.lemmas.Grind.{common_steps, get_or-set_at}
use Rattle.std.proofs.lemmas.Bool.{cases_eq, eq-eqb, ne_eqb}
use Rattle.std.proofs.lemmas.List.{take_more, length-append, length-set, get_or_default, get_or-set_other}
use Rattle.std.proofs.lemmas.List.Elements.{All-get_or}
use Rattle.live_tests.specs.Neighbours.{before}
use Rattle.live_tests.proofs.Sides.{sides-append}

-- for each of `count` tests it is counted how many come before it
pub record AreCounts (count : ℕ) (pairs : List (ℕ × ℕ)) (counts : List ℕ) : Type 0 where
  pub long : length counts ≡ count
  pub are : (i : ℕ) → i < count → slice_index_or counts i 0 ≡ length (before i pairs)

before_more : (i : ℕ) (pairs : List (ℕ × ℕ)) (k : ℕ) → k < length pairs → length (before i (take (k + 1) pairs)) ≡ length (before i (take k pairs)) + cond (nat_eq i (get_or pairs k (0, 0)).1) 1 0
before_more i pairs k within =
    ap (λ l. length (before i l)) (take_more pairs k (0, 0) within)
    ∙ ap length (sides-append (λ (e : ℕ × ℕ). e.1) (λ (e : ℕ × ℕ). e.0) i (take k pairs) (get_or pairs k (0, 0) ∷ []))
    ∙ length-append (before i (take k pairs)) (before i (get_or pairs k (0, 0) ∷ []))
    ∙ ap (λ n. length (before i (take k pairs)) + n) (one (nat_eq i (get_or pairs k (0, 0)).1))
  where
    one : (t : Bool) → length (cond t ((get_or pairs k (0, 0)).0 ∷ []) []) ≡ cond t 1 0
    one true = refl
    one false = refl

pub counts_more : (count : ℕ) (counts : List ℕ) (pairs : List (ℕ × ℕ)) (k x : ℕ) → AreCounts count (take k pairs) counts → k < length pairs → All (λ (e : ℕ × ℕ). (e.0 < count) × (e.1 < count)) pairs → x ≡ get_or counts (get_or pairs k (0, 0)).1 x
    → AreCounts count (take (k + 1) pairs) (slice_set counts (get_or pairs k (0, 0)).1 (x + 1))
counts_more count counts pairs k x counted within all is = record {
  long = length-set counts second (x + 1) ∙ counted.long;
  are = λ j less. by j less (cases_eq j second);
}
  where
    second : ℕ
    second = (get_or pairs k (0, 0)).1

    there : second < length counts
    there = let e = All-get_or (λ (e : ℕ × ℕ). (e.0 < count) × (e.1 < count)) pairs k (0, 0) within all in omega (arith, e.1, counted.long)

    by : (j : ℕ) → j < count → (j ≡ second) ⊎ (j ≡ second → ⊥) → slice_index_or (slice_set counts second (x + 1)) j 0 ≡ length (before j (take (k + 1) pairs))
    by j less (inl same) =
        let more : length (before j (take (k + 1) pairs)) ≡ length (before j (take k pairs)) + 1 = before_more j pairs k within ∙ ap (λ b. length (before j (take k pairs)) + cond b 1 0) (eq-eqb j second same) in
        let now : get_or counts j 0 ≡ length (before j (take k pairs)) = counted.are j less in
        let here : x ≡ get_or counts j 0 = is ∙ get_or_default counts second x 0 there ∙ ap (λ i. get_or counts i 0) (sym same) in
        get_or-set_at counts second j (x + 1) 0 same there ∙ ap (λ n. n + 1) (here ∙ now) ∙ sym more
    by j less (inr apart) =
        let more : length (before j (take (k + 1) pairs)) ≡ length (before j (take k pairs)) + 0 = before_more j pairs k within ∙ ap (λ b. length (before j (take k pairs)) + cond b 1 0) (ne_eqb j second apart) in
        let now : get_or counts j 0 ≡ length (before j (take k pairs)) = counted.are j less in
        let same : get_or (slice_set counts second (x + 1)) j 0 ≡ get_or counts j 0 = get_or-set_other counts second j (x + 1) 0 apart in
        omega arith

-- a count is no more than there are pairs
before-le : (i : ℕ) (pairs : List (ℕ × ℕ)) → length (before i pairs) ≤ length pairs
before-le i [] = omega arith
before-le i (e ∷ pairs) = by (nat_eq i e.1) (before-le i pairs)
  where
    by : (t : Bool) → length (before i pairs) ≤ length pairs → length (cond t (e.0 ∷ before i pairs) (before i pairs)) ≤ length (e ∷ pairs)
    by true less = omega (arith, less)
    by false less = omega (arith, less)

pub count_small : (count : ℕ) (counts : List ℕ) (pairs : List (ℕ × ℕ)) (k x : ℕ) → AreCounts count (take k pairs) counts → k < length pairs → All (λ (e : ℕ × ℕ). (e.0 < count) × (e.1 < count)) pairs → x ≡ get_or counts (get_or pairs k (0, 0)).1 x → x ≤ k
count_small count counts pairs k x counted within all is0 =
    let e = All-get_or (λ (e : ℕ × ℕ). (e.0 < count) × (e.1 < count)) pairs k (0, 0) within all in
    let now : get_or counts (get_or pairs k (0, 0)).1 0 ≡ length (before (get_or pairs k (0, 0)).1 (take k pairs)) = counted.are (get_or pairs k (0, 0)).1 e.1 in
    let is : x ≡ get_or counts (get_or pairs k (0, 0)).1 0 = is0 ∙ get_or_default counts (get_or pairs k (0, 0)).1 x 0 (omega (arith, e.1, counted.long)) in
    let most : length (take k pairs) ≤ k = grind (arith, common_steps) in
    omega (arith, before-le (get_or pairs k (0, 0)).1 (take k pairs), now, is, most)
