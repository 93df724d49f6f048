-- The greatest of some numbers.
use Rattle.std.proofs.Common.{◌≡◌, ℕ, zero, suc, ◌+◌, ◌*◌, ◌≤◌, ◌<◌, max, Some, List, [], ◌∷◌, length, map, refl, ap, ◌∙◌, arith, get_or, take, ◌++◌}
use Rattle.std.specs.Prelude.{slice_get}
use Rattle.std.specs.List.{sum_by}
use Rattle.std.proofs.lemmas.List.{take_more, map-append}
use Rattle.std.proofs.lemmas.List.Sums.{sum_by-cons}
use Rattle.plan_model.specs.Plans.{greatest}

-- an item that stands there
pub le-greatest_at : {X : Type 0} (f : X → ℕ) (xs : List X) (i : ℕ) (x : X) → slice_get xs i ≡ Some x → f x ≤ greatest (map f xs)
le-greatest_at f [] i x e = absurd cc
le-greatest_at f (y ∷ xs) zero x e =
    let same : f y ≡ f x = ap f cc in
    omega arith
le-greatest_at f (y ∷ xs) (suc i) x e =
    let ih : f x ≤ greatest (map f xs) = le-greatest_at f xs i x e in
    omega arith

-- an item by its place, with a default that counts nothing past the end
pub le-greatest : {X : Type 0} (f : X → ℕ) (d : X) → f d ≡ 0 → (xs : List X) (j : ℕ) → f (get_or xs j d) ≤ greatest (map f xs)
le-greatest f d none [] j = omega arith
le-greatest f d none (x ∷ xs) zero = omega arith
le-greatest f d none (x ∷ xs) (suc j) = let ih : f (get_or xs j d) ≤ greatest (map f xs) = le-greatest f d none xs j in omega arith

-- what all items are within
pub greatest-least : {X : Type 0} (f : X → ℕ) (n : ℕ) (xs : List X) → ((i : ℕ) (x : X) → slice_get xs i ≡ Some x → f x ≤ n) → greatest (map f xs) ≤ n
greatest-least f n [] h = omega arith
greatest-least f n (x ∷ xs) h =
    let here : f x ≤ n = h 0 x refl in
    let ih : greatest (map f xs) ≤ n = greatest-least f n xs (λ i y e. h (suc i) y e) in
    omega arith

pub sum_by-le-greatest : {X : Type 0} (f : X → ℕ) (xs : List X) → sum_by f xs ≤ greatest (map f xs) * length xs
sum_by-le-greatest f xs = go f xs (greatest (map f xs)) (omega arith) where
  go : {X : Type 0} (f : X → ℕ) (xs : List X) (g : ℕ) → greatest (map f xs) ≤ g → sum_by f xs ≤ g * length xs
  go f [] g h = omega arith
  go f (x ∷ xs) g h =
      let ih : sum_by f xs ≤ g * length xs = go f xs g (omega arith) in
      let product : g * suc (length xs) ≡ g * length xs + g = omega arith in
      omega (arith, sum_by-cons f x xs)

pub greatest_push : (xs : List ℕ) (x : ℕ) → greatest (xs ++ x ∷ []) ≡ max (greatest xs) x
greatest_push [] x = omega arith
greatest_push (y ∷ ys) x = let ih : greatest (ys ++ x ∷ []) ≡ max (greatest ys) x = greatest_push ys x in omega arith

-- one item more
pub greatest_more : {X : Type 0} (f : X → ℕ) (xs : List X) (i : ℕ) (x : X) → i < length xs → get_or xs i x ≡ x → greatest (map f (take (i + 1) xs)) ≡ max (greatest (map f (take i xs))) (f x)
greatest_more f xs i x h e =
    ap (λ v. greatest (map f v)) (take_more xs i x h) ∙ ap greatest (map-append f (take i xs) (get_or xs i x ∷ [])) ∙ greatest_push (map f (take i xs)) (f (get_or xs i x)) ∙ ap (λ v. max (greatest (map f (take i xs))) (f v)) e
