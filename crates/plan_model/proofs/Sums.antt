-- Sums over the items of a list, and counts of those that pass.
use Rattle.std.proofs.Common.{◌≡◌, ℕ, suc, ◌+◌, ◌≤◌, ◌<◌, Bool, true, false, Some, List, [], ◌∷◌, refl, ap, ◌∙◌, arith, inl, inr, ◌⊎◌, zero, ◌*◌}
use Rattle.std.specs.Prelude.{slice_get, ◌||◌, if◌then◌else◌}
use Rattle.std.specs.List.{sum_by, filter}
use Rattle.std.proofs.lemmas.Bool.{cases_Bool, false_from_ne_true}
use Rattle.std.proofs.lemmas.List.Sums.{sum_by-cons}

-- smaller where the items stand
pub sum_by-le_at : {X : Type 0} (f g : X → ℕ) (xs : List X) → ((i : ℕ) (x : X) → slice_get xs i ≡ Some x → f x ≤ g x) → sum_by f xs ≤ sum_by g xs
sum_by-le_at f g [] h = omega arith
sum_by-le_at f g (x ∷ xs) h = omega (arith, sum_by-cons f x xs, sum_by-cons g x xs, h 0 x refl, sum_by-le_at f g xs (λ i y at. h (suc i) y at))

-- an item of a sum is at most the sum
pub item-le-sum_by : {X : Type 0} (f : X → ℕ) (xs : List X) (n : ℕ) (x : X) → slice_get xs n ≡ Some x → f x ≤ sum_by f xs
item-le-sum_by f [] n x at = absurd cc
item-le-sum_by f (y ∷ xs) zero x at =
    let same : f y ≡ f x = ap f cc in
    omega (arith, sum_by-cons f y xs)
item-le-sum_by f (y ∷ xs) (suc n) x at = omega (arith, sum_by-cons f y xs, item-le-sum_by f xs n x at)

-- and so are two items
pub two-le-sum_by : {X : Type 0} (f : X → ℕ) (xs : List X) (i j : ℕ) (x y : X) → i < j → slice_get xs i ≡ Some x → slice_get xs j ≡ Some y → f x + f y ≤ sum_by f xs
two-le-sum_by f [] i j x y less at at' = absurd cc
two-le-sum_by f (z ∷ xs) i zero x y less at at' = absurd (omega arith)
two-le-sum_by f (z ∷ xs) zero (suc j) x y less at at' =
    let same : f z ≡ f x = ap f cc in
    omega (arith, sum_by-cons f z xs, item-le-sum_by f xs j y at')
two-le-sum_by f (z ∷ xs) (suc i) (suc j) x y less at at' = omega (arith, sum_by-cons f z xs, two-le-sum_by f xs i j x y (omega arith) at at')

-- ---- of those that pass

pub sum_by-filter : {X : Type 0} (p : X → Bool) (f : X → ℕ) (xs : List X) → sum_by f (filter p xs) ≡ sum_by (λ x. if p x then f x else 0) xs
sum_by-filter p f [] = refl
sum_by-filter p f (x ∷ xs) =
    let ih : sum_by f (filter p xs) ≡ sum_by (λ x. if p x then f x else 0) xs = sum_by-filter p f xs in
    let split : sum_by (λ x. if p x then f x else 0) (x ∷ xs) ≡ (if p x then f x else 0) + sum_by (λ x. if p x then f x else 0) xs = sum_by-cons (λ x. if p x then f x else 0) x xs in
    let left : sum_by f (filter p (x ∷ xs)) ≡ (if p x then f x else 0) + sum_by f (filter p xs) = elim (cases_Bool (p x)) [
      | inl yes' ↦ rw yes' (sum_by-cons f x (filter p xs))
      | inr no' ↦ rw no' (omega arith)
    ] in
    omega arith

-- where no item passes both
pub sum_by-or : {X : Type 0} (p q : X → Bool) (f : X → ℕ) (xs : List X) → ((x : X) → p x ≡ true → q x ≡ true → ⊥) → sum_by (λ x. if p x then f x else 0) xs + sum_by (λ x. if q x then f x else 0) xs ≡ sum_by (λ x. if p x || q x then f x else 0) xs
sum_by-or p q f [] h = refl
sum_by-or p q f (x ∷ xs) h =
    let ih : sum_by (λ x. if p x then f x else 0) xs + sum_by (λ x. if q x then f x else 0) xs ≡ sum_by (λ x. if p x || q x then f x else 0) xs = sum_by-or p q f xs h in
    let a : sum_by (λ x. if p x then f x else 0) (x ∷ xs) ≡ (if p x then f x else 0) + sum_by (λ x. if p x then f x else 0) xs = sum_by-cons (λ x. if p x then f x else 0) x xs in
    let b : sum_by (λ x. if q x then f x else 0) (x ∷ xs) ≡ (if q x then f x else 0) + sum_by (λ x. if q x then f x else 0) xs = sum_by-cons (λ x. if q x then f x else 0) x xs in
    let c : sum_by (λ x. if p x || q x then f x else 0) (x ∷ xs) ≡ (if p x || q x then f x else 0) + sum_by (λ x. if p x || q x then f x else 0) xs = sum_by-cons (λ x. if p x || q x then f x else 0) x xs in
    let here : (if p x then f x else 0) + (if q x then f x else 0) ≡ (if p x || q x then f x else 0) = go (p x) (q x) (f x) (h x) in
    omega arith
  where
    go : (a b : Bool) (n : ℕ) → (a ≡ true → b ≡ true → ⊥) → (if a then n else 0) + (if b then n else 0) ≡ (if a || b then n else 0)
    go true true n h = absurd (h refl refl)
    go true false n h = omega arith
    go false true n h = omega arith
    go false false n h = refl

pub sum_by-times : {X : Type 0} (p : X → Bool) (f : X → ℕ) (k : ℕ) (xs : List X) → k * sum_by (λ x. if p x then f x else 0) xs ≡ sum_by (λ x. if p x then k * f x else 0) xs
sum_by-times p f k [] = omega arith
sum_by-times p f k (x ∷ xs) =
    let ih : k * sum_by (λ x. if p x then f x else 0) xs ≡ sum_by (λ x. if p x then k * f x else 0) xs = sum_by-times p f k xs in
    let here : k * (if p x then f x else 0) ≡ (if p x then k * f x else 0) = elim (cases_Bool (p x)) [ inl yes' ↦ rw yes' refl | inr no' ↦ rw no' (omega arith) ] in
    let split : sum_by (λ x. if p x then f x else 0) (x ∷ xs) ≡ (if p x then f x else 0) + sum_by (λ x. if p x then f x else 0) xs = sum_by-cons (λ x. if p x then f x else 0) x xs in
    let product : k * ((if p x then f x else 0) + sum_by (λ x. if p x then f x else 0) xs) ≡ k * (if p x then f x else 0) + k * sum_by (λ x. if p x then f x else 0) xs = omega arith in
    ap (λ v. k * v) split ∙ product ∙ omega (arith, sum_by-cons (λ x. if p x then k * f x else 0) x xs)

-- ---- how many pass

-- 1 for what passes
abbrev pub one_if : Bool → ℕ
one_if b = if b then 1 else 0

-- an item that passes is somewhere
pub some_passes : {X : Type 0} (p : X → Bool) (xs : List X) → 1 ≤ sum_by (λ x. one_if (p x)) xs → (n : ℕ) × (x : X) × (slice_get xs n ≡ Some x) × (p x ≡ true)
some_passes p [] h = absurd (omega arith)
some_passes p (x ∷ xs) h = elim (cases_Bool (p x)) [
  | inl yes' ↦ (0, x, refl, yes')
  | inr no' ↦
      let split : sum_by (λ x. one_if (p x)) (x ∷ xs) ≡ one_if (p x) + sum_by (λ x. one_if (p x)) xs = sum_by-cons (λ x. one_if (p x)) x xs in
      let none : one_if (p x) ≡ 0 = rw no' refl in
      let r = some_passes p xs (omega arith) in
      (suc r.0, r.1, r.2, r.3)
]

pub none_passes : {X : Type 0} (p : X → Bool) (xs : List X) → ((j : ℕ) (y : X) → slice_get xs j ≡ Some y → p y ≡ true → ⊥) → sum_by (λ x. one_if (p x)) xs ≡ 0
none_passes p [] h = refl
none_passes p (x ∷ xs) h =
    let here : p x ≡ false = false_from_ne_true (p x) (h 0 x refl) in
    let ih : sum_by (λ x. one_if (p x)) xs ≡ 0 = none_passes p xs (λ j y at. h (suc j) y at) in
    sum_by-cons (λ x. one_if (p x)) x xs ∙ rw here (omega arith)

-- where no two pass, at most one does
pub at_most_one : {X : Type 0} (p : X → Bool) (xs : List X) → ((i j : ℕ) (x y : X) → i < j → slice_get xs i ≡ Some x → slice_get xs j ≡ Some y → p x ≡ true → p y ≡ true → ⊥) → sum_by (λ x. one_if (p x)) xs ≤ 1
at_most_one p [] h = omega arith
at_most_one p (x ∷ xs) h =
    let split : sum_by (λ x. one_if (p x)) (x ∷ xs) ≡ one_if (p x) + sum_by (λ x. one_if (p x)) xs = sum_by-cons (λ x. one_if (p x)) x xs in
    rw split (go (cases_Bool (p x)) (at_most_one p xs (λ i j y z lt at at'. h (suc i) (suc j) y z (omega arith) at at')))
  where
    go : (p x ≡ true) ⊎ (p x ≡ false) → sum_by (λ x. one_if (p x)) xs ≤ 1 → one_if (p x) + sum_by (λ x. one_if (p x)) xs ≤ 1
    go (inl yes') _ =
        let none : sum_by (λ x. one_if (p x)) xs ≡ 0 = none_passes p xs (λ j y at passes. h 0 (suc j) x y (omega arith) refl at yes' passes) in
        rw (yes', none) (omega arith)
    go (inr no') few = rw no' (omega arith)

-- one number for each that passes
pub sum_by-constant : {X : Type 0} (p : X → Bool) (k : ℕ) (xs : List X) → sum_by (λ x. if p x then k else 0) xs ≡ k * sum_by (λ x. one_if (p x)) xs
sum_by-constant p k [] = omega arith
sum_by-constant p k (x ∷ xs) =
    let ih : sum_by (λ x. if p x then k else 0) xs ≡ k * sum_by (λ x. one_if (p x)) xs = sum_by-constant p k xs in
    let here : (if p x then k else 0) ≡ k * one_if (p x) = elim (cases_Bool (p x)) [ inl yes' ↦ rw yes' (omega arith) | inr no' ↦ rw no' (omega arith) ] in
    let product : k * (one_if (p x) + sum_by (λ x. one_if (p x)) xs) ≡ k * one_if (p x) + k * sum_by (λ x. one_if (p x)) xs = omega arith in
    let split : sum_by (λ x. one_if (p x)) (x ∷ xs) ≡ one_if (p x) + sum_by (λ x. one_if (p x)) xs = sum_by-cons (λ x. one_if (p x)) x xs in
    sum_by-cons (λ x. if p x then k else 0) x xs ∙ rw split (omega arith)
