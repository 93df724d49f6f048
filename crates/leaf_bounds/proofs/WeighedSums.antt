-- Sums over the lists that a leaf weighs, the slots of a module, and the least of some costs.
use Rattle.std.proofs.Common.{◌≡◌, ℕ, zero, suc, ◌+◌, ◌-◌, ◌*◌, ◌/◌, ◌≤◌, ◌<◌, Bool, true, false, Option, Some, None, List, [], ◌∷◌, refl, ap, ◌∙◌, arith, inl, inr, ◌⊎◌, mul-add, mul-le-mul_left, div-mul-le_self, max, map, slice_get, ◌||◌, if◌then◌else◌, sum_by, flat_map}
use Rattle.std.specs.List.{range_with_len}
use Rattle.std.proofs.lemmas.Bool.{cases_lt, cases_eq}
use Rattle.std.proofs.lemmas.List.Sums.{sum_by-cons}
use Rattle.std.proofs.lemmas.Nat.{le-div}
use Rattle.soc_model.specs.Chips.{SocValue, LiveTest, id_of}
use Rattle.plan_model.specs.Plans.{LimitsValue, power_of_id, smallest}
use Rattle.plan_model.specs.Certificates.{on}
use Rattle.plan_model.proofs.Sums.{sum_by-le_at}
use Rattle.plan_model.proofs.SumsOverCycles.{sum_below-mono}
use Rattle.plan_model.specs.Proofs.{ListValue, OfTurns, OfTurnsOn, OfCrowd, OfPower, WeightsValue}
use Rattle.leaf_bounds.specs.Cases.{Case, low_at, known_ranks, high_at}
use Rattle.leaf_bounds.specs.Lists.{is_among, is_beside, counted, power_use, use_of}
use Rattle.leaf_bounds.specs.Leaves.{rank_weight, weighed, Slot, slot, from_to, slots_at, rest_high, rest_slots, all_slots}
use Rattle.plan_model.proofs.Lists.{in_append_right, in_flat_map}
use Rattle.common_lemmas.proofs.Lists.{map_at, at_left}

-- ---- weighed lists

-- over any list of places and weights
abbrev pub by_weight : List ListValue → List (ℕ × ℕ) → (ListValue → ℕ) → ℕ
by_weight lists os f = sum_by (λ (o : ℕ × ℕ). o.1 * on (slice_get lists o.0) f) os

pub weighed-le : (lists : List ListValue) (weights : WeightsValue) (f g : ListValue → ℕ) → ((n : ℕ) (list : ListValue) → slice_get lists n ≡ Some list → f list ≤ g list) → weighed lists weights f ≤ weighed lists weights g
weighed-le lists weights f g h =
    sum_by-le_at (λ (o : ℕ × ℕ). o.1 * on (slice_get lists o.0) f) (λ (o : ℕ × ℕ). o.1 * on (slice_get lists o.0) g) weights.lists (λ i o at. mul-le-mul_left o.1 (less (slice_get lists o.0) (λ list e. h o.0 list e)))
  where
    less : (o : Option ListValue) → ((list : ListValue) → o ≡ Some list → f list ≤ g list) → on o f ≤ on o g
    less None h = omega arith
    less (Some list) h = h list refl

on-add : (f g : ListValue → ℕ) (o : Option ListValue) → on o (λ x. f x + g x) ≡ on o f + on o g
on-add f g None = refl
on-add f g (Some x) = refl

module _ (lists : List ListValue) where
  by_weight-add : (os : List (ℕ × ℕ)) (f g : ListValue → ℕ) → by_weight lists os (λ x. f x + g x) ≡ by_weight lists os f + by_weight lists os g
  by_weight-add [] f g = refl
  by_weight-add (o ∷ os) f g =
      let here = ap (λ v. o.1 * v) (on-add f g (slice_get lists o.0)) ∙ mul-add o.1 (on (slice_get lists o.0) f) (on (slice_get lists o.0) g) in
      omega (arith, here, by_weight-add os f g, sum_by-cons (λ (o : ℕ × ℕ). o.1 * on (slice_get lists o.0) (λ x. f x + g x)) o os, sum_by-cons (λ (o : ℕ × ℕ). o.1 * on (slice_get lists o.0) f) o os, sum_by-cons (λ (o : ℕ × ℕ). o.1 * on (slice_get lists o.0) g) o os)

  pub weighed-add : (weights : WeightsValue) (f g : ListValue → ℕ) → weighed lists weights (λ x. f x + g x) ≡ weighed lists weights f + weighed lists weights g
  weighed-add weights f g = by_weight-add weights.lists f g

-- ---- more cycles, more use

quotient-mono : (a b p : ℕ) → a ≤ b → a / p ≤ b / p
quotient-mono a b p h = go p (cases_lt 0 p)
  where
    go : (p : ℕ) → (0 < p) ⊎ (p ≤ 0) → a / p ≤ b / p
    go p (inl some) = let below : a / p * p ≤ b = omega (arith, div-mul-le_self a p) in le-div (a / p) b p some below
    go zero (inr none) = omega arith
    go (suc p) (inr none) = absurd (omega arith)

pub use_of-mono : (soc : SocValue) (limits : LimitsValue) (at : ℕ → Bool) (list : ListValue) (m n : ℕ) (l : LiveTest) → m ≤ n → use_of soc limits at list m l ≤ use_of soc limits at list n l
use_of-mono soc limits at list m n l h = go list
  where
    either : (b : Bool) → (if b then m else 0) ≤ (if b then n else 0)
    either true = h
    either false = omega arith

    power : (near : ℕ) (o : Option ℕ) → power_use limits near l m o ≤ power_use limits near l n o
    power near None = omega arith
    power near (Some limit) = quotient-mono _ _ limit (sum_below-mono (λ r. counted limit near (power_of_id limits (id_of l) l.test.power r)) m n h)

    go : (list : ListValue) → use_of soc limits at list m l ≤ use_of soc limits at list n l
    go (OfTurns tests) = either (is_among tests l)
    go (OfTurnsOn rank tests) = either (is_among tests l || is_beside soc limits at rank tests l)
    go (OfCrowd most tests) = either (is_among tests l)
    go (OfPower near) = power near limits.power

-- ---- slots

pub in_range : (a n v : ℕ) → a ≤ v → v < a + n → (i : ℕ) × (slice_get (range_with_len a n) i ≡ Some v)
in_range a zero v from to = absurd (omega arith)
in_range a (suc n) v from to = elim (cases_eq a v) [
  | inl same ↦ (0, ap Some same)
  | inr other ↦ let r = in_range (a + 1) n v (omega (arith, other)) (omega arith) in (suc r.0, r.1)
]

module _ (w : ℕ) (c : Case) (weights : WeightsValue) (p : ℕ) where
  -- a slot of the module at a place
  abbrev pub HasSlot : Slot → Type 0
  HasSlot s = (n : ℕ) × (slice_get (all_slots w c weights p) n ≡ Some s)

  pub of_known : (r v : ℕ) → r < known_ranks c → c.may p r ≡ true → 1 ≤ v → low_at c r ≤ v → v ≤ high_at c r →
      HasSlot (slot (Some r) v (rank_weight weights r + weights.wire * (v - low_at c r)))
  of_known r v known may some low high =
      let at = in_range (max 1 (low_at c r)) (high_at c r + 1 - max 1 (low_at c r)) v (omega arith) (omega arith) in
      let here = map_at (λ v. slot (Some r) v (rank_weight weights r + weights.wire * (v - low_at c r))) (from_to (max 1 (low_at c r)) (high_at c r)) at.0 v at.1 in
      let k = in_range 0 (known_ranks c) r (omega arith) (omega arith) in
      let all = in_flat_map (λ rank. if c.may p rank then slots_at c weights rank else []) (range_with_len 0 (known_ranks c)) k.0 at.0 r (slot (Some r) v (rank_weight weights r + weights.wire * (v - low_at c r))) k.1 (rw may here) in
      (all.0, at_left (flat_map (λ rank. if c.may p rank then slots_at c weights rank else []) (range_with_len 0 (known_ranks c))) (if c.may_rest p then rest_slots w c weights else []) all.0 (slot (Some r) v (rank_weight weights r + weights.wire * (v - low_at c r))) all.1)

  pub of_rest : (v : ℕ) → c.may_rest p ≡ true → 1 ≤ v → v ≤ rest_high w c (known_ranks c) → HasSlot (slot None v (weights.wire * v))
  of_rest v may some high =
      let at = in_range 1 (rest_high w c (known_ranks c) + 1 - 1) v some (omega arith) in
      let here = map_at (λ v. slot None v (weights.wire * v)) (from_to 1 (rest_high w c (known_ranks c))) at.0 v at.1 in
      in_append_right (flat_map (λ rank. if c.may p rank then slots_at c weights rank else []) (range_with_len 0 (known_ranks c))) (if c.may_rest p then rest_slots w c weights else []) at.0 (slot None v (weights.wire * v)) (rw may here)

-- ---- the least of some costs

pub smallest-le : {X : Type 0} (g : X → ℕ) (xs : List X) (n : ℕ) {x : X} → slice_get xs n ≡ Some x → smallest (map g xs) ≤ g x
smallest-le g [] n at = absurd cc
smallest-le g (y ∷ []) zero {x} at = let same : g y ≡ g x = ap g cc in omega arith
smallest-le g (y ∷ []) (suc n) at = absurd cc
smallest-le g (y ∷ z ∷ xs) zero {x} at = let same : g y ≡ g x = ap g cc in omega arith
smallest-le g (y ∷ z ∷ xs) (suc n) at = omega (arith, smallest-le g (z ∷ xs) n at)
