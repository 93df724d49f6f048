-- Places of lists.
use Rattle.std.proofs.Common.{◌≡◌, ℕ, zero, suc, ◌<◌, Some, List, [], ◌∷◌, take, refl, ◌∙◌, arith, slice_get, sum_by, count_by, flat_map, Bool, cond}
use Rattle.std.proofs.lemmas.List.Sums.{sum_by-cons, sum_by-append}

-- those that pass in joined lists
pub count_flat : {X Y : Type 0} (p : Y → Bool) (f : X → List Y) (xs : List X) → count_by p (flat_map f xs) ≡ sum_by (λ x. count_by p (f x)) xs
count_flat p f [] = refl
count_flat p f (x ∷ xs) =
    let ih : count_by p (flat_map f xs) ≡ sum_by (λ x. count_by p (f x)) xs = count_flat p f xs in
    sum_by-append (λ y. cond (p y) 1 0) (f x) (flat_map f xs) ∙ omega (arith, sum_by-cons (λ x. count_by p (f x)) x xs)
