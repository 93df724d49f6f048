-- What stands at a place of a list, seen by `slice_get`.
use Rattle.std.proofs.Common.{◌≡◌, ℕ, zero, suc, ◌+◌, ◌<◌, Bool, true, false, Some, List, [], ◌∷◌, ◌++◌, length, get_or, map, take, refl, ap, sym, arith, zero-add, inl, inr, ◌⊎◌, ◌-◌, ◌∙◌, replicate}
use Rattle.std.specs.Prelude.{slice_get}
use Rattle.std.specs.List.{flat_map, filter, list_any, Contains}
use Rattle.std.proofs.lemmas.List.{length-take-le, get_or-take}
use Rattle.std.proofs.lemmas.Bool.{cases_Bool, or_left, or_right, or_cases, or_parts}
use Rattle.std.proofs.lemmas.Option.{slice_get-get_or, slice_get_within, get_or_from_slice_get}
use Rattle.common_lemmas.proofs.Lists.{at_left}

-- ---- joined, mapped and filtered lists

pub from_append : {X : Type 0} (xs ys : List X) (i : ℕ) (x : X) → slice_get (xs ++ ys) i ≡ Some x → (slice_get xs i ≡ Some x) ⊎ ((j : ℕ) × (i ≡ length xs + j) × (slice_get ys j ≡ Some x))
from_append [] ys i x e = inr (i, sym (zero-add i), e)
from_append (y ∷ xs) ys zero x e = inl e
from_append (y ∷ xs) ys (suc i) x e = elim (from_append xs ys i x e) [ inl a ↦ inl a | inr b ↦ inr (b.0, omega arith, b.2) ]

pub in_append_right : {X : Type 0} (xs ys : List X) (i : ℕ) (x : X) → slice_get ys i ≡ Some x → (n : ℕ) × (slice_get (xs ++ ys) n ≡ Some x)
in_append_right [] ys i x e = (i, e)
in_append_right (y ∷ xs) ys i x e = let r = in_append_right xs ys i x e in (suc r.0, r.1)

pub from_flat_map : {X Y : Type 0} (f : X → List Y) (xs : List X) (n : ℕ) (y : Y) → slice_get (flat_map f xs) n ≡ Some y → (i : ℕ) × (x : X) × (j : ℕ) × (slice_get xs i ≡ Some x) × (slice_get (f x) j ≡ Some y)
from_flat_map f [] n y e = absurd cc
from_flat_map f (x ∷ xs) n y e = elim (from_append (f x) (flat_map f xs) n y e) [
  | inl a ↦ (0, x, n, refl, a)
  | inr a ↦ let r = from_flat_map f xs a.0 y a.2 in (suc r.0, r.1, r.2, r.3, r.4)
]

pub in_flat_map : {X Y : Type 0} (f : X → List Y) (xs : List X) (i j : ℕ) (x : X) (y : Y) → slice_get xs i ≡ Some x → slice_get (f x) j ≡ Some y → (n : ℕ) × (slice_get (flat_map f xs) n ≡ Some y)
in_flat_map f [] i j x y e h = absurd cc
in_flat_map f (z ∷ xs) zero j x y e h =
    let same : z ≡ x = cc in
    (j, at_left (f z) (flat_map f xs) j y (rw same h))
in_flat_map f (z ∷ xs) (suc i) j x y e h =
    let r = in_flat_map f xs i j x y e h in
    in_append_right (f z) (flat_map f xs) r.0 y r.1

pub from_filter : {X : Type 0} (p : X → Bool) (xs : List X) (n : ℕ) (x : X) → slice_get (filter p xs) n ≡ Some x → (k : ℕ) × (slice_get xs k ≡ Some x) × (p x ≡ true)
from_filter p [] n x e = absurd cc
from_filter p (y ∷ xs) n x e = elim (cases_Bool (p y)) [
  | inl yes' ↦ let e' = rw yes' at e in here n e' yes' (λ m e2. from_filter p xs m x e2)
  | inr no' ↦ let e' = rw no' at e in let r = from_filter p xs n x e' in (suc r.0, r.1, r.2)
]
  where
    here : (n : ℕ) → slice_get (y ∷ filter p xs) n ≡ Some x → p y ≡ true → ((m : ℕ) → slice_get (filter p xs) m ≡ Some x → (k : ℕ) × (slice_get xs k ≡ Some x) × (p x ≡ true)) → (k : ℕ) × (slice_get (y ∷ xs) k ≡ Some x) × (p x ≡ true)
    here zero e yes' later = let same : y ≡ x = cc in (0, e, rw (← same) yes')
    here (suc n) e yes' later = let r = later n e in (suc r.0, r.1, r.2)

-- ---- members and tests

pub at_contains : {X : Type 0} (xs : List X) (n : ℕ) (x : X) → slice_get xs n ≡ Some x → Contains xs x
at_contains xs n x at = (n, slice_get_within xs n x at, get_or_from_slice_get xs n x x at)

pub any_from : {X : Type 0} (p : X → Bool) (xs : List X) (n : ℕ) (x : X) → slice_get xs n ≡ Some x → p x ≡ true → list_any p xs ≡ true
any_from p [] n x e h = absurd cc
any_from p (y ∷ xs) zero x e h = let same : y ≡ x = cc in or_left (p y) (list_any p xs) (rw same h)
any_from p (y ∷ xs) (suc n) x e h = or_right (p y) (list_any p xs) (any_from p xs n x e h)

pub none_of : {X : Type 0} (p : X → Bool) (xs : List X) → list_any p xs ≡ false → (i : ℕ) (x : X) → slice_get xs i ≡ Some x → p x ≡ false
none_of p [] h i x e = absurd cc
none_of p (y ∷ xs) h zero x e = let same : y ≡ x = cc in rw (← same) ((or_parts (p y) (list_any p xs) h).0)
none_of p (y ∷ xs) h (suc i) x e = none_of p xs ((or_parts (p y) (list_any p xs) h).1) i x e

-- ---- parts

-- the last of the first items
pub last-take : {X : Type 0} (xs : List X) (n : ℕ) (x : X) → slice_get xs n ≡ Some x → slice_get (take (suc n) xs) (length (take (suc n) xs) - 1) ≡ Some x
last-take xs n x at =
    let within : n < length xs = slice_get_within xs n x at in
    let long : length (take (suc n) xs) ≡ suc n = length-take-le (suc n) xs (omega arith) in
    let same : length (take (suc n) xs) - 1 ≡ n = omega arith in
    let here : get_or (take (suc n) xs) n x ≡ x = get_or-take (suc n) xs n x (omega arith) ∙ get_or_from_slice_get xs n x x at in
    rw same (slice_get-get_or (take (suc n) xs) n x (omega arith) ∙ ap Some here)

pub slice_get-replicate : {X : Type 0} (n i : ℕ) (x : X) → i < n → slice_get (replicate n x) i ≡ Some x
slice_get-replicate zero i x h = absurd (omega arith)
slice_get-replicate (suc n) zero x h = refl
slice_get-replicate (suc n) (suc i) x h = slice_get-replicate n i x (omega arith)

-- what stands before and after an item
pub split_at : {X : Type 0} (xs : List X) (k : ℕ) (y : X) → slice_get xs k ≡ Some y → (p : List X) × (q : List X) × (xs ≡ p ++ y ∷ q)
split_at [] k y e = absurd cc
split_at (x ∷ xs) zero y e = ([], xs, cc)
split_at (x ∷ xs) (suc k) y e = let r = split_at xs k y e in (x ∷ r.0, r.1, ap (λ v. x ∷ v) r.2)

-- an item of the rest stands in the whole
pub in_split : {X : Type 0} (p : List X) (n : X) (q : List X) (i : ℕ) (x : X) → slice_get (p ++ q) i ≡ Some x → (j : ℕ) × (slice_get (p ++ n ∷ q) j ≡ Some x)
in_split [] n q i x e = (suc i, e)
in_split (y ∷ p) n q zero x e = (0, e)
in_split (y ∷ p) n q (suc i) x e = let r = in_split p n q i x e in (suc r.0, r.1)
