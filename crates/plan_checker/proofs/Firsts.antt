-- The first item of a list that breaks a rule: an item at a time, and over lists that are joined.
use Rattle.std.proofs.Common.{◌≡◌, ℕ, zero, suc, ◌+◌, ◌≤◌, ◌<◌, Some, List, [], ◌∷◌, ◌++◌, length, take, refl, ap, ◌∙◌, arith, inl, inr, slice_get}
use Rattle.std.proofs.lemmas.Option.{slice_get_within}
use Rattle.plan_model.specs.Rules.{IsFirstBreach, Each}
use Rattle.plan_model.proofs.Lists.{from_append, split_at}
use Rattle.common_lemmas.proofs.Lists.{at_left}

-- ---- joined lists

length_split : {X : Type 0} (xs ys : List X) (n : ℕ) → take (length xs + n) (xs ++ ys) ≡ xs ++ take n ys
length_split [] ys n = let e : 0 + n ≡ n = omega arith in rw e refl
length_split (x ∷ xs) ys n = let e : suc (length xs) + n ≡ suc (length xs + n) = omega arith in rw e (ap (λ v. x ∷ v) (length_split xs ys n))

pub get_behind : {X : Type 0} (xs ys : List X) (n : ℕ) → slice_get (xs ++ ys) (length xs + n) ≡ slice_get ys n
get_behind [] ys n = let e : 0 + n ≡ n = omega arith in rw e refl
get_behind (x ∷ xs) ys n = let e : suc (length xs) + n ≡ suc (length xs + n) = omega arith in rw e (get_behind xs ys n)

pub take_front : {X : Type 0} (xs ys : List X) (n : ℕ) → n ≤ length xs → take n (xs ++ ys) ≡ take n xs
take_front [] ys zero h = refl
take_front [] ys (suc n) h = absurd (omega arith)
take_front (x ∷ xs) ys zero h = refl
take_front (x ∷ xs) ys (suc n) h = ap (λ v. x ∷ v) (take_front xs ys n (omega arith))

-- a rule behind a list
abbrev pub Behind : {X : Type 0} → List X → (List X → X → Type 0) → List X → X → Type 0
Behind xs P earlier y = P (xs ++ earlier) y

pub each_append : {X : Type 0} (P : List X → X → Type 0) (xs ys : List X) → Each P xs → Each (Behind xs P) ys → Each P (xs ++ ys)
each_append P xs ys a b n x at = elim (from_append xs ys n x at) [
  | inl e ↦ rw (take_front xs ys n (omega (arith, slice_get_within xs n x e))) (a n x e)
  | inr e ↦ rw (e.1, length_split xs ys e.0) (b e.0 x e.2)
]

pub each_front : {X : Type 0} (P : List X → X → Type 0) (xs ys : List X) → Each P (xs ++ ys) → Each P xs
each_front P xs ys h n x at = rw (take_front xs ys n (omega (arith, slice_get_within xs n x at))) at (h n x (at_left xs ys n x at))

pub first_front : {X : Type 0} (P : List X → X → Type 0) (xs ys : List X) (n : ℕ) (x : X) → IsFirstBreach P xs n x → IsFirstBreach P (xs ++ ys) n x
first_front P xs ys n x f =
    let within : n < length xs = slice_get_within xs n x f.there in
    record {
      there = at_left xs ys n x f.there;
      breaks = rw (take_front xs ys n (omega arith)) f.breaks;
      earlier = λ m y less at. elim (from_append xs ys m y at) [
        | inl e ↦ rw (take_front xs ys m (omega arith)) (f.earlier m y less e)
        | inr e ↦ absurd (omega (arith, e.1))
      ];
    }

pub first_behind : {X : Type 0} (P : List X → X → Type 0) (xs ys : List X) (n : ℕ) (y : X) → Each P xs → IsFirstBreach (Behind xs P) ys n y → IsFirstBreach P (xs ++ ys) (length xs + n) y
first_behind P xs ys n y a f = record {
  there = get_behind xs ys n ∙ f.there;
  breaks = rw (length_split xs ys n) f.breaks;
  earlier = λ m z less at. elim (from_append xs ys m z at) [
    | inl e ↦ rw (take_front xs ys m (omega (arith, slice_get_within xs m z e))) (a m z e)
    | inr e ↦ rw (e.1, length_split xs ys e.0) (f.earlier e.0 z (omega (arith, e.1)) e.2)
  ];
}

-- ---- items that differ and stand in a list are no more than it has

in_rest : {X : Type 0} (p : List X) (x : X) (q : List X) (y : X) → (y ≡ x → ⊥) → (i : ℕ) → slice_get (p ++ x ∷ q) i ≡ Some y → (j : ℕ) × (slice_get (p ++ q) j ≡ Some y)
in_rest [] x q y other zero at = absurd (other cc)
in_rest [] x q y other (suc i) at = (i, at)
in_rest (z ∷ p) x q y other zero at = (0, at)
in_rest (z ∷ p) x q y other (suc i) at = let r = in_rest p x q y other i at in (suc r.0, r.1)

length_rest : {X : Type 0} (p : List X) (x : X) (q : List X) → length (p ++ x ∷ q) ≡ suc (length (p ++ q))
length_rest [] x q = refl
length_rest (z ∷ p) x q = ap suc (length_rest p x q)

pub pigeon : {X : Type 0} (n : ℕ) (f : ℕ → X) (ys : List X) → ((i j : ℕ) → i < j → j < n → f i ≡ f j → ⊥) → ((i : ℕ) → i < n → (k : ℕ) × (slice_get ys k ≡ Some (f i))) → n ≤ length ys
pigeon zero f ys apart in_ys = omega arith
pigeon (suc n) f ys apart in_ys =
    let k = in_ys n (omega arith) in
    let s = split_at ys k.0 (f n) k.1 in
    let few : n ≤ length (s.0 ++ s.1) = pigeon n f (s.0 ++ s.1) (λ i j less within e. apart i j less (omega arith) e) (λ i less.
    let at = in_ys i (omega arith) in
    in_rest s.0 (f n) s.1 (f i) (λ e. apart i n less (omega arith) e) at.0 (rw s.2 at at.1)) in
    let long : length ys ≡ suc (length (s.0 ++ s.1)) = ap length s.2 ∙ length_rest s.0 (f n) s.1 in
    omega arith
