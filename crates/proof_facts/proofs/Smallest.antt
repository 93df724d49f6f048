-- The smallest of some numbers.
use Rattle.std.proofs.Common.{◌≡◌, ℕ, ◌+◌, ◌<◌, min, List, [], ◌∷◌, ◌++◌, length, get_or, map, take, refl, ap, ◌∙◌, sym, arith}
use Rattle.std.proofs.lemmas.List.{take_more, map-append}
use Rattle.plan_model.specs.Plans.{smallest}

smallest_push : (x y : ℕ) (xs : List ℕ) → smallest (x ∷ (xs ++ y ∷ [])) ≡ min (smallest (x ∷ xs)) y
smallest_push x y [] = refl
smallest_push x y (z ∷ zs) = let ih : smallest (z ∷ (zs ++ y ∷ [])) ≡ min (smallest (z ∷ zs)) y = smallest_push z y zs in omega arith

abbrev pub power : ℕ × ℕ → ℕ
power s = s.1

-- one step more
pub next_least : (first : ℕ) (steps : List (ℕ × ℕ)) (i least new : ℕ) (d : ℕ × ℕ) → i < length steps → least ≡ smallest (first ∷ map power (take i steps)) → new ≡ min least (get_or steps i d).1 → new ≡ smallest (first ∷ map power (take (i + 1) steps))
next_least first steps i least new d within was is =
    let more : map power (take (i + 1) steps) ≡ map power (take i steps) ++ (get_or steps i d).1 ∷ [] = ap (map power) (take_more steps i d within) ∙ map-append power (take i steps) (get_or steps i d ∷ []) in
    is ∙ ap (λ n. min n (get_or steps i d).1) was ∙ sym (smallest_push first (get_or steps i d).1 (map power (take i steps))) ∙ ap (λ xs. smallest (first ∷ xs)) (sym more)
