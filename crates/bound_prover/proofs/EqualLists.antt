-- Two lists that are compared item by item.
use Rattle.std.proofs.Common.{◌≡◌, ◌∷◌, ◌&&◌, [], ℕ, Bool, true, List, nat_eq, refl}
use Rattle.std.proofs.lemmas.Bool.{and_parts, eqb-true}
use Rattle.std.specs.Cmp.Lexicographic.{pointwise}

-- lists whose items are equal by a test
pub equal_items : {X : Type 0} {E : X → X → Bool} → ((x y : X) → E x y ≡ true → x ≡ y) → (xs ys : List X) → pointwise E xs ys ≡ true → xs ≡ ys
equal_items are [] [] e = refl
equal_items are [] (y ∷ ys) e = absurd cc
equal_items are (x ∷ xs) [] e = absurd cc
equal_items {E} are (x ∷ xs) (y ∷ ys) e =
    let parts = and_parts (E x y) (pointwise E xs ys) e in
    let head = are x y parts.0 in
    let tail = equal_items are xs ys parts.1 in
    cc

-- two pairs
pub equal_pair : (p q : ℕ × ℕ) → nat_eq p.0 q.0 && nat_eq p.1 q.1 ≡ true → p ≡ q
equal_pair (a, b) (x, y) e =
    let parts = and_parts (nat_eq a x) (nat_eq b y) e in
    let first = eqb-true a x parts.0 in
    let second = eqb-true b y parts.1 in
    cc
