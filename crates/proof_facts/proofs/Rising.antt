-- Lists of numbers in order.
use Rattle.std.proofs.Common.{◌≡◌, ℕ, zero, suc, ◌+◌, ◌≤◌, ◌<◌, false, List, [], ◌∷◌, length, get_or, drop, take, refl, ap, ◌∙◌, sym, arith, inl, inr, eqb, leb}
use Rattle.std.specs.List.{sum, sum_by}
use Rattle.std.proofs.lemmas.Bool.{cases_Bool, cases_lt, le-leb, eq-eqb, eqb-true, leb-true}
use Rattle.std.proofs.lemmas.List.Sums.{sum_by-cons}
use Rattle.plan_model.proofs.Sums.{one_if}
use Rattle.proof_facts.specs.Packed.{insert, rising}

-- each of the numbers is at least `x`
abbrev pub AllAtLeast : ℕ → List ℕ → Type 0
AllAtLeast x [] = Unit {0}
AllAtLeast x (y ∷ ys) = (x ≤ y) × AllAtLeast x ys

-- each number is at least those before it
abbrev pub Rises : List ℕ → Type 0
Rises [] = Unit {0}
Rises (x ∷ xs) = AllAtLeast x xs × Rises xs

pub at_least-less : (x z : ℕ) (ys : List ℕ) → z ≤ x → AllAtLeast x ys → AllAtLeast z ys
at_least-less x z [] less all = tt
at_least-less x z (y ∷ ys) less all = (omega (arith, all.0), at_least-less x z ys less all.1)

-- ---- what insertion keeps

at_least-insert : (z x : ℕ) (ys : List ℕ) → z ≤ x → AllAtLeast z ys → AllAtLeast z (insert x ys)
at_least-insert z x [] less all = (less, tt)
at_least-insert z x (y ∷ ys) less all = elim (cases_Bool (leb x y)) [
  | inl yes' ↦ rw yes' (less, all)
  | inr no' ↦ rw no' (all.0, at_least-insert z x ys less all.1)
]

not_le : (x y : ℕ) → leb x y ≡ false → y ≤ x
not_le x y no' = elim (cases_lt y x) [
  | inl less ↦ omega arith
  | inr more ↦ let yes' = le-leb x y more in absurd cc
]

insert-rises : (x : ℕ) (ys : List ℕ) → Rises ys → Rises (insert x ys)
insert-rises x [] rises = (tt, tt)
insert-rises x (y ∷ ys) rises = elim (cases_Bool (leb x y)) [
  | inl yes' ↦ rw yes' ((leb-true x y yes', at_least-less y x ys (leb-true x y yes') rises.0), rises)
  | inr no' ↦ rw no' (at_least-insert y x ys (not_le x y no') rises.0, insert-rises x ys rises.1)
]

pub rising-rises : (xs : List ℕ) → Rises (rising xs)
rising-rises [] = tt
rising-rises (x ∷ xs) = insert-rises x (rising xs) (rising-rises xs)

sum_by-insert : (f : ℕ → ℕ) (x : ℕ) (ys : List ℕ) → sum_by f (insert x ys) ≡ f x + sum_by f ys
sum_by-insert f x [] = sum_by-cons f x []
sum_by-insert f x (y ∷ ys) = elim (cases_Bool (leb x y)) [
  | inl yes' ↦ rw yes' (sum_by-cons f x (y ∷ ys))
  | inr no' ↦
      let ih : sum_by f (insert x ys) ≡ f x + sum_by f ys = sum_by-insert f x ys in
      rw no' (omega (arith, sum_by-cons f y (insert x ys), sum_by-cons f y ys))
]

pub sum_by-rising : (f : ℕ → ℕ) (xs : List ℕ) → sum_by f (rising xs) ≡ sum_by f xs
sum_by-rising f [] = refl
sum_by-rising f (x ∷ xs) =
    let ih : sum_by f (rising xs) ≡ sum_by f xs = sum_by-rising f xs in
    omega (arith, sum_by-insert f x (rising xs), sum_by-cons f x xs)

pub length-insert : (x : ℕ) (ys : List ℕ) → length (insert x ys) ≡ suc (length ys)
length-insert x [] = refl
length-insert x (y ∷ ys) = elim (cases_Bool (leb x y)) [
  | inl yes' ↦ rw yes' refl
  | inr no' ↦ rw no' (ap suc (length-insert x ys))
]

pub length-rising : (xs : List ℕ) → length (rising xs) ≡ length xs
length-rising [] = refl
length-rising (x ∷ xs) = length-insert x (rising xs) ∙ ap suc (length-rising xs)

-- ---- two lists in order with the same numbers are one

least_of : (x y : ℕ) (zs : List ℕ) → AllAtLeast x zs → 1 ≤ sum_by (λ v. one_if (eqb v y)) zs → x ≤ y
least_of x y [] all some = absurd (omega arith)
least_of x y (z ∷ zs) all some = elim (cases_Bool (eqb z y)) [
  | inl yes' ↦ let same : z ≡ y = eqb-true z y yes' in omega (arith, all.0)
  | inr no' ↦
      let split : sum_by (λ v. one_if (eqb v y)) (z ∷ zs) ≡ one_if (eqb z y) + sum_by (λ v. one_if (eqb v y)) zs = sum_by-cons (λ v. one_if (eqb v y)) z zs in
      let none : one_if (eqb z y) ≡ 0 = rw no' refl in
      least_of x y zs all.1 (omega arith)
]

head-le : (x y : ℕ) (xs ys : List ℕ) → AllAtLeast x xs → ((f : ℕ → ℕ) → sum_by f (x ∷ xs) ≡ sum_by f (y ∷ ys)) → x ≤ y
head-le x y xs ys all same =
    let here : one_if (eqb y y) ≡ 1 = rw (eq-eqb y y refl) refl in
    let split : sum_by (λ v. one_if (eqb v y)) (y ∷ ys) ≡ one_if (eqb y y) + sum_by (λ v. one_if (eqb v y)) ys = sum_by-cons (λ v. one_if (eqb v y)) y ys in
    least_of x y (x ∷ xs) (omega arith, all) (omega (arith, same (λ v. one_if (eqb v y))))

pub one_rising : (xs ys : List ℕ) → Rises xs → Rises ys → ((f : ℕ → ℕ) → sum_by f xs ≡ sum_by f ys) → xs ≡ ys
one_rising [] [] r r' same = refl
one_rising [] (y ∷ ys) r r' same =
    let split : sum_by (λ v. 1) (y ∷ ys) ≡ 1 + sum_by (λ v. 1) ys = sum_by-cons (λ v. 1) y ys in
    let none : sum_by (λ (v : ℕ). 1) [] ≡ 0 = refl in
    absurd (omega (arith, same (λ v. 1)))
one_rising (x ∷ xs) [] r r' same =
    let split : sum_by (λ v. 1) (x ∷ xs) ≡ 1 + sum_by (λ v. 1) xs = sum_by-cons (λ v. 1) x xs in
    let none : sum_by (λ (v : ℕ). 1) [] ≡ 0 = refl in
    absurd (omega (arith, same (λ v. 1)))
one_rising (x ∷ xs) (y ∷ ys) r r' same =
    let a : x ≤ y = head-le x y xs ys r.0 same in
    let b : y ≤ x = head-le y x ys xs r'.0 (λ f. sym (same f)) in
    let head : x ≡ y = omega arith in
    let tail : xs ≡ ys = one_rising xs ys r.1 r'.1 (λ f. let h : f x ≡ f y = ap f head in omega (arith, same f, sum_by-cons f x xs, sum_by-cons f y ys)) in
    rw (head, tail) refl

-- lists of the same numbers in any order
pub same_rising : (xs ys : List ℕ) → ((f : ℕ → ℕ) → sum_by f xs ≡ sum_by f ys) → rising xs ≡ rising ys
same_rising xs ys same = one_rising (rising xs) (rising ys) (rising-rises xs) (rising-rises ys) (λ f. sum_by-rising f xs ∙ same f ∙ sym (sum_by-rising f ys))

-- a list that is in order by its places
pub rises_by_place : (xs : List ℕ) → ((i j : ℕ) → i ≤ j → j < length xs → get_or xs i 0 ≤ get_or xs j 0) → Rises xs
rises_by_place [] h = tt
rises_by_place (x ∷ xs) h = (all x xs (λ j within. h 0 (suc j) (omega arith) (omega arith)), rises_by_place xs (λ i j le within. h (suc i) (suc j) (omega arith) (omega arith))) where
  all : (x : ℕ) (ys : List ℕ) → ((j : ℕ) → j < length ys → x ≤ get_or ys j 0) → AllAtLeast x ys
  all x [] h = tt
  all x (y ∷ ys) h = (h 0 (omega arith), all x ys (λ j within. h (suc j) (omega arith)))

-- ---- stretches of a list in order

pub rises-drop : (n : ℕ) (xs : List ℕ) → Rises xs → Rises (drop n xs)
rises-drop zero xs rises = rises
rises-drop (suc n) [] rises = tt
rises-drop (suc n) (x ∷ xs) rises = rises-drop n xs rises.1

-- the least numbers, one more of them or one in place of a lesser one
pub next_least : (x : ℕ) (ys : List ℕ) (j : ℕ) → AllAtLeast x ys → suc j ≤ length ys → x + sum (take j ys) ≤ sum (take (suc j) ys)
next_least x [] j all within = absurd (omega arith)
next_least x (y ∷ ys) zero all within =
    let split : sum (y ∷ []) ≡ y + sum [] = sum_by-cons (λ v. v) y [] in
    omega (arith, all.0)
next_least x (y ∷ ys) (suc j) all within =
    let ih : x + sum (take j ys) ≤ sum (take (suc j) ys) = next_least x ys j all.1 (omega arith) in
    let a : sum (y ∷ take j ys) ≡ y + sum (take j ys) = sum_by-cons (λ v. v) y (take j ys) in
    let b : sum (y ∷ take (suc j) ys) ≡ y + sum (take (suc j) ys) = sum_by-cons (λ v. v) y (take (suc j) ys) in
    omega arith

one_on : (j : ℕ) (xs : List ℕ) → Rises xs → suc j ≤ length xs → sum (take j xs) ≤ sum (take j (drop 1 xs))
one_on j [] rises within = absurd (omega arith)
one_on zero (x ∷ xs) rises within = omega arith
one_on (suc j) (x ∷ xs) rises within =
    let split : sum (x ∷ take j xs) ≡ x + sum (take j xs) = sum_by-cons (λ v. v) x (take j xs) in
    omega (arith, next_least x xs j rises.0 (omega arith))

-- as many of them from a later place on are no less together
pub window-le : (j a b : ℕ) (xs : List ℕ) → Rises xs → a ≤ b → b + j ≤ length xs → sum (take j (drop a xs)) ≤ sum (take j (drop b xs))
window-le j a b [] rises le within = let none : j ≡ 0 = omega arith in rw none (omega arith)
window-le j zero zero (x ∷ xs) rises le within = omega arith
window-le j (suc a) zero (x ∷ xs) rises le within = absurd (omega arith)
window-le j zero (suc b) (x ∷ xs) rises le within = omega (arith, one_on j (x ∷ xs) rises (omega arith), window-le j 0 b xs rises.1 (omega arith) (omega arith))
window-le j (suc a) (suc b) (x ∷ xs) rises le within = window-le j a b xs rises.1 (omega arith) (omega arith)

sum-take-le : (n : ℕ) (xs : List ℕ) → sum (take n xs) ≤ sum xs
sum-take-le zero xs = omega arith
sum-take-le (suc n) [] = omega arith
sum-take-le (suc n) (x ∷ xs) = omega (arith, sum_by-cons (λ v. v) x (take n xs), sum_by-cons (λ v. v) x xs, sum-take-le n xs)

sum-drop-le : (n : ℕ) (xs : List ℕ) → sum (drop n xs) ≤ sum xs
sum-drop-le zero xs = omega arith
sum-drop-le (suc n) [] = omega arith
sum-drop-le (suc n) (x ∷ xs) = omega (arith, sum_by-cons (λ v. v) x xs, sum-drop-le n xs)

pub window-le-sum : (j a : ℕ) (xs : List ℕ) → sum (take j (drop a xs)) ≤ sum xs
window-le-sum j a xs = omega (arith, sum-take-le j (drop a xs), sum-drop-le a xs)

all-take : (x n : ℕ) (ys : List ℕ) → AllAtLeast x ys → AllAtLeast x (take n ys)
all-take x zero ys all = tt
all-take x (suc n) [] all = tt
all-take x (suc n) (y ∷ ys) all = (all.0, all-take x n ys all.1)

pub rises-take : (n : ℕ) (xs : List ℕ) → Rises xs → Rises (take n xs)
rises-take zero xs rises = tt
rises-take (suc n) [] rises = tt
rises-take (suc n) (x ∷ xs) rises = (all-take x n xs rises.0, rises-take n xs rises.1)

-- what is in order stays as it is
pub rising-same : (xs : List ℕ) → Rises xs → rising xs ≡ xs
rising-same xs rises = one_rising (rising xs) xs (rising-rises xs) rises (λ f. sum_by-rising f xs)
