-- What the rooms of the checker hold, and that they have place for it.
use Rattle.std.proofs.Common.{◌≡◌, ℕ, zero, suc, ◌≤◌, ◌<◌, true, eqb, Some, List, [], ◌∷◌, length, get_or, map, take, refl, ap, ◌∙◌, arith, eq-eqb, slice_get, Contains}
use Rattle.std.proofs.lemmas.Bool.{and_parts, eqb-true}
use Rattle.std.proofs.lemmas.Option.{slice_get-get_or}
use Rattle.soc_model.specs.declared.TestId.{TestId}
use Rattle.soc_model.specs.Chips.{same_test}
use Rattle.plan_model.specs.Rules.{IsNew}
use Rattle.plan_model.proofs.FirstBreaches.{EachTo}
use Rattle.plan_checker.proofs.Firsts.{pigeon}
use Rattle.common_lemmas.proofs.Lists.{map_at, contains_from, contains_at}

pub same_test_is : (a b : TestId) → same_test a b ≡ true → a ≡ b
same_test_is a b h =
    let p = and_parts (eqb a.«module» b.«module») (eqb a.test b.test) h in
    let m : a.«module» ≡ b.«module» = eqb-true a.«module» b.«module» p.0 in
    let t : a.test ≡ b.test = eqb-true a.test b.test p.1 in
    join a.«module» a.test b.«module» b.test m t
  where
    made : ℕ → ℕ → TestId
    made x y = record { «module» = x; test = y }

    join : (x y z w : ℕ) → x ≡ z → y ≡ w → made x y ≡ made z w
    join x y z w e f = rw (e, f) refl

pub same_test_itself : (a : TestId) → same_test a a ≡ true
same_test_itself a = rw (eq-eqb a.«module» a.«module» refl, eq-eqb a.test a.test refl) refl

-- ---- place for one more

take_at : {X : Type 0} (xs : List X) (i j : ℕ) (x : X) → i < j → slice_get xs i ≡ Some x → slice_get (take j xs) i ≡ Some x
take_at [] i j x less e = absurd cc
take_at (y ∷ xs) i zero x less e = absurd (omega arith)
take_at (y ∷ xs) zero (suc j) x less e = e
take_at (y ∷ xs) (suc i) (suc j) x less e = take_at xs i j x (omega arith) e

-- where each of the first `n` items is new and stands in a list, that list has as many
pub new_fit : {X Y : Type 0} (f : X → Y) (xs : List X) (ys : List Y) (n : ℕ) (d : X) → n ≤ length xs → EachTo (λ earlier x. IsNew (map f earlier) (f x)) xs n → EachTo (λ earlier x. Contains ys (f x)) xs n → n ≤ length ys
new_fit f xs ys n d within new in_ys = pigeon n (λ i. f (get_or xs i d)) ys
    (λ i j less below e. new j (get_or xs j d) below (slice_get-get_or xs j d (omega arith)) (contains_from (map f (take j xs)) (f (get_or xs j d)) i (map_at f (take j xs) i (get_or xs i d) (take_at xs i j (get_or xs i d) less (slice_get-get_or xs i d (omega arith))) ∙ ap Some e)))
    (λ i below. contains_at ys (f (get_or xs i d)) (in_ys i (get_or xs i d) below (slice_get-get_or xs i d (omega arith))))

pub length_values : {X Y : Type 0} (f : X → Y) (xs : List X) → length (map f xs) ≡ length xs
length_values f [] = refl
length_values f (x ∷ xs) = ap suc (length_values f xs)
