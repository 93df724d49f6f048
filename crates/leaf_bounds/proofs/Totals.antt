-- The weights of a leaf's lists, added up list by list.
use Rattle.std.proofs.Common.{◌≡◌, ℕ, zero, suc, ◌+◌, ◌*◌, ◌^◌, ◌≤◌, ◌<◌, List, [], ◌∷◌, ◌++◌, length, refl, sym, ap, subst, ◌∙◌, arith, inl, inr, add-mul, replicate, slice_get, slice_index, slice_set, All, sum_by}
use Rattle.std.proofs.lemmas.Bool.{cases_eq}
use Rattle.std.proofs.lemmas.List.{get_or-set_same, get_or-set_other, length-set}
use Rattle.std.proofs.lemmas.List.Elements.{All-tail}
use Rattle.std.proofs.lemmas.List.FromFn.{length-map-range_with_len, map-range_with_len_more, sum_by-map-range_with_len_more}
use Rattle.std.proofs.lemmas.List.Sums.{sum_by-cons, sum_by_push}
use Rattle.plan_model.specs.Certificates.{on}
use Rattle.leaf_bounds.specs.declared.basis.Basis.{Basis}
use Rattle.leaf_bounds.specs.declared.leaf_costs.Weighed.{Weighed}
use Rattle.leaf_bounds.specs.Bases.{lists_of}
use Rattle.leaf_bounds.specs.Lists.{room_of}
use Rattle.plan_model.specs.Proofs.{ListValue, WeightsValue}
use Rattle.plan_model.specs.Sayable.{AreWeights}
use Rattle.leaf_bounds.specs.LeafCosts.{AreTotals, AreUses, IsMade, IsWeighed, all_weights, by_places, weighed_by}

-- the sum over the first `n` places
abbrev up : (ℕ → ℕ) → List ℕ → ℕ → ℕ
up f totals n = sum_by (λ (o : ℕ × ℕ). o.1 * f o.0) (by_places totals n)

module _ (f : ℕ → ℕ) where
  up_next : (totals : List ℕ) (n : ℕ) → up f totals (suc n) ≡ up f totals n + slice_index totals n * f n
  up_next totals n =
      subst (λ k. up f totals k ≡ up f totals n + slice_index totals n * f n) (one n)
      (sum_by-map-range_with_len_more (λ (o : ℕ × ℕ). o.1 * f o.0) (λ place. (place, slice_index totals place)) 0 n n (omega arith))
    where
      one : (n : ℕ) → n + 1 ≡ suc n
      one n = omega arith

  -- one place has more
  up_more : (xs ys : List ℕ) (l w n : ℕ) → slice_index ys l ≡ slice_index xs l + w → ((i : ℕ) → (i ≡ l → ⊥) → slice_index ys i ≡ slice_index xs i) →
      (n ≤ l → up f ys n ≡ up f xs n) × (l < n → up f ys n ≡ up f xs n + w * f l)
  up_more xs ys l w zero here other = (λ low. refl, λ low. absurd (omega (arith, low)))
  up_more xs ys l w (suc n) here other =
      let before = up_more xs ys l w n here other in
      elim (cases_eq n l) [
        | inl same ↦
            let now : slice_index ys n * f n ≡ slice_index xs n * f n + w * f l = rw same (ap (λ k. k * f l) here ∙ add-mul (slice_index xs l) w (f l)) in
            (λ low. absurd (omega (arith, low, same)), λ low. omega (arith, up_next ys n, up_next xs n, before.0 (omega (arith, same)), now))
        | inr differs ↦
            let now = ap (λ k. k * f n) (other n differs) in (
              λ low. omega (arith, up_next ys n, up_next xs n, before.0 (omega (arith, low)), now),
              λ low. omega (arith, up_next ys n, up_next xs n, before.1 (omega (arith, low, differs)), now),
            )
      ]

-- nothing yet
pub totals_none : (totals : List ℕ) → ((i : ℕ) → slice_index totals i ≡ 0) → AreTotals [] totals
totals_none totals none = λ f. go f (length totals)
  where
    go : (f : ℕ → ℕ) (n : ℕ) → up f totals n ≡ 0
    go f zero = refl
    go f (suc n) =
        let now : slice_index totals n * f n ≡ 0 = rw (none n) (omega arith) in
        omega (arith, up_next f totals n, go f n, now)

-- one weight more
pub totals_more : (os : List (ℕ × ℕ)) (totals : List ℕ) (l w : ℕ) → l < length totals → AreTotals os totals → AreTotals (os ++ (l, w) ∷ []) (slice_set totals l (slice_index totals l + w))
totals_more os totals l w within are = λ f.
    let long = length-set totals l (slice_index totals l + w) in
    let added : up f (slice_set totals l (slice_index totals l + w)) (length totals) ≡ up f totals (length totals) + w * f l =
    (up_more f totals (slice_set totals l (slice_index totals l + w)) l w (length totals) (get_or-set_same totals l (slice_index totals l + w) 0 within)
    (λ i differs. get_or-set_other totals l i (slice_index totals l + w) 0 differs)).1 within in
    ap (up f (slice_set totals l (slice_index totals l + w))) long ∙ added ∙ ap (λ k. k + w * f l) (are f) ∙ sym (sum_by_push (λ (o : ℕ × ℕ). o.1 * f o.0) os (l, w))

-- what stands at a place is within all weights
up_holds : (totals : List ℕ) (l n : ℕ) → l < n → slice_index totals l ≤ up (λ i. 1) totals n
up_holds totals l zero less = absurd (omega (arith, less))
up_holds totals l (suc n) less = elim (cases_eq l n) [
  | inl same ↦
      omega (arith, up_next (λ i. 1) totals n, ap (slice_index totals) same)
  | inr differs ↦ omega (arith, up_next (λ i. 1) totals n, up_holds totals l n (omega (arith, less, differs)))
]

few_weights : (os : List (ℕ × ℕ)) → All (λ (o : ℕ × ℕ). o.1 ≤ 10 ^ 9) os → sum_by (λ (o : ℕ × ℕ). o.1 * 1) os ≤ length os * 10 ^ 9
few_weights [] small = omega arith
few_weights (o ∷ os) small =
    let head = small 0 o (omega arith) in
    omega (arith, head, few_weights os (All-tail (λ (o : ℕ × ℕ). o.1 ≤ 10 ^ 9) o os small), sum_by-cons (λ (o : ℕ × ℕ). o.1 * 1) o os)

pub total_small : (os : List (ℕ × ℕ)) (totals : List ℕ) (l : ℕ) → All (λ (o : ℕ × ℕ). o.1 ≤ 10 ^ 9) os → AreTotals os totals → l < length totals → slice_index totals l ≤ length os * 10 ^ 9
total_small os totals l small are within = omega (arith, up_holds totals l (length totals) within, are (λ i. 1), few_weights os small)

weights_suc : (totals : List ℕ) (n : ℕ) → all_weights (by_places totals (suc n)) ≡ all_weights (by_places totals n) + slice_index totals n
weights_suc totals n =
    subst (λ k. all_weights (by_places totals k) ≡ all_weights (by_places totals n) + slice_index totals n) (one n)
    (sum_by-map-range_with_len_more (λ (o : ℕ × ℕ). o.1) (λ place. (place, slice_index totals place)) 0 n n (omega arith))
  where
    one : (n : ℕ) → n + 1 ≡ suc n
    one n = omega arith

same_weights : (totals : List ℕ) (n : ℕ) → all_weights (by_places totals n) ≡ up (λ i. 1) totals n
same_weights totals zero = refl
same_weights totals (suc n) = omega (arith, up_next (λ i. 1) totals n, weights_suc totals n, same_weights totals n)

-- the weights of a text are small
pub small_uses : {weights : WeightsValue} → AreWeights weights → All (λ (o : ℕ × ℕ). o.1 ≤ 10 ^ 9) weights.lists
small_uses are = λ i o within. omega (arith, are.lists i o within)

-- all together
pub weights_few : (os : List (ℕ × ℕ)) (totals : List ℕ) → All (λ (o : ℕ × ℕ). o.1 ≤ 10 ^ 9) os → length os ≤ 2 ^ 24 → AreTotals os totals → all_weights (by_places totals (length totals)) ≤ 2 ^ 24 * 10 ^ 9
weights_few os totals small few are = omega (arith, same_weights totals (length totals), are (λ i. 1), few_weights os small, few)

-- those of fewer places
pub fewer_weights : (totals : List ℕ) (l n : ℕ) → l < n → all_weights (by_places totals l) + slice_index totals l ≤ all_weights (by_places totals n)
fewer_weights totals l zero less = absurd (omega (arith, less))
fewer_weights totals l (suc n) less = elim (cases_eq l n) [
  | inl same ↦
      omega (arith, ap (λ k. all_weights (by_places totals k) + slice_index totals k) same, weights_suc totals n)
  | inr differs ↦ omega (arith, fewer_weights totals l n (omega (arith, less, differs)), weights_suc totals n)
]

-- sums over lists are the same
pub regrouped : (lists : List ListValue) (os : List (ℕ × ℕ)) (totals : List ℕ) {count : ℕ} → length totals ≡ count → AreTotals os totals → (f : ListValue → ℕ) →
    weighed_by lists (by_places totals count) f ≡ weighed_by lists os f
regrouped lists os totals long are f = ap (λ n. weighed_by lists (by_places totals n) f) (sym long) ∙ are (λ i. on (slice_get lists i) f)

module _ (totals : List ℕ) (n : ℕ) where
  -- one place more
  pub places_more : by_places totals (n + 1) ≡ by_places totals n ++ (n, slice_index totals n) ∷ []
  places_more = map-range_with_len_more (λ place. (place, slice_index totals place)) 0 n n (omega arith)

  pub few_places : length (by_places totals n) ≡ n
  few_places = length-map-range_with_len (λ place. (place, slice_index totals place)) 0 n

-- where nothing is added up yet
none_at : (n i : ℕ) → slice_index (replicate n 0) i ≡ 0
none_at zero i = refl
none_at (suc n) zero = refl
none_at (suc n) (suc i) = none_at n i

pub totals_zero : {totals : List ℕ} (n : ℕ) → totals ≡ replicate n 0 → AreTotals [] totals
totals_zero {totals} n is = totals_none totals (λ i. ap (λ xs. slice_index xs i) is ∙ none_at n i)

-- ---- the room when all is added up

pub few_for : (os : List (ℕ × ℕ)) {totals own : List ℕ} {count : ℕ} → own ≡ totals → length totals ≡ count → All (λ (o : ℕ × ℕ). o.1 ≤ 10 ^ 9) os → length os ≤ 2 ^ 24 →
    AreTotals os totals → all_weights (by_places own count) ≤ 2 ^ 24 * 10 ^ 9
few_for os {totals} {own} {count} same long small few are =
    let here = ap (λ xs. all_weights (by_places xs count)) same ∙ ap (λ n. all_weights (by_places totals n)) (sym long) in
    omega (arith, here, weights_few os totals small few are)

pub weighed_room : {g : Basis} {weights : WeightsValue} {totals own : List ℕ} {room : Weighed} → own ≡ totals → length totals ≡ length (lists_of g) → AreUses g weights →
    AreTotals weights.lists totals → IsMade g (by_places own (length (lists_of g))) room → IsWeighed g weights room
weighed_room {g} {weights} {totals} {own} own_is long uses are made =
    record {
      uses = uses;
      os = by_places own (length (lists_of g));
      made = made;
      same = same;
      rooms = made.rooms ∙ same room_of;
      few_rooms = omega (arith, made.few_rooms, few_for weights.lists own_is long (small_uses uses.small) uses.few are);
    }
  where
    same : (f : ListValue → ℕ) → weighed_by (lists_of g) (by_places own (length (lists_of g))) f ≡ weighed_by (lists_of g) weights.lists f
    same f = ap (λ xs. weighed_by (lists_of g) (by_places xs (length (lists_of g))) f) own_is ∙ regrouped (lists_of g) weights.lists totals long are f
