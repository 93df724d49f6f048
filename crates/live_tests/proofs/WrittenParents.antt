-- Parents that are written place by place.
use Rattle.std.proofs.Common.{◌≡◌, ℕ, zero, suc, ◌≤◌, ◌<◌, Option, Some, None, List, [], ◌∷◌, ◌++◌, length, map, take, drop, refl, sym, ap, ◌∙◌, arith, inl, inr}
use Rattle.std.specs.Prelude.{set, slice_get, option_map}
use Rattle.std.proofs.lemmas.Grind.{common_steps}
use Rattle.std.proofs.lemmas.Bool.{cases_lt, lt-ltb, le-ltb}
use Rattle.std.proofs.lemmas.List.{length-map, take_all}
use Rattle.std.proofs.lemmas.Option.{same_Some, slice_get-map}
use Rattle.soc_model.specs.Chips.{SocValue, IsParent, parent_place}
use Rattle.soc_model.proofs.Parents.{IsParent-from_place, place-from_IsParent}
use Rattle.live_tests.specs.Parents.{HasParentAt, AreParents, AreParentPlaces, below}

pub set_else : {X : Type 0} (xs : List X) (i j : ℕ) (y : X) → (j ≡ i → ⊥) → slice_get (set xs i y) j ≡ slice_get xs j
set_else [] i j y h = refl
set_else (x ∷ xs) zero zero y h = absurd (h refl)
set_else (x ∷ xs) zero (suc j) y h = refl
set_else (x ∷ xs) (suc i) zero y h = refl
set_else (x ∷ xs) (suc i) (suc j) y h = set_else xs i j y (λ e. h (ap suc e))

-- what is written for a module is the place of its parent, where it is a place
pub parent_is : (soc : SocValue) (parents : List ℕ) (p v : ℕ) → p < length soc.modules → HasParentAt soc parents p → slice_get parents p ≡ Some v → below (length soc.modules) v ≡ parent_place soc.modules p
parent_is soc parents p v there h read = elim (cases_lt v (length soc.modules)) [
  | inl less ↦
      let is : IsParent soc.modules h.q p = h.is (omega (arith, same, less)) in
      rw (lt-ltb v (length soc.modules) less) (ap Some (sym same) ∙ sym (place-from_IsParent soc.modules h.q p is))
  | inr past ↦ rw (le-ltb v (length soc.modules) past) (sym (none past (parent_place soc.modules p) refl))
]
  where
    same : h.q ≡ v
    same = same_Some h.q v (sym h.at ∙ read)

    none : length soc.modules ≤ v → (o : Option ℕ) → parent_place soc.modules p ≡ o → parent_place soc.modules p ≡ None
    none past None e = e
    none past (Some r) e =
        let is : IsParent soc.modules r p = IsParent-from_place soc.modules r p e in
        absurd (omega (arith, h.only r is, is.earlier, there, past, same))

-- all that is written
pub parents_are : (soc : SocValue) (count k : ℕ) (places : List ℕ) (found : List (Option ℕ)) → count ≡ length soc.modules → length places ≡ length soc.modules → length places ≤ k → AreParents soc places → found ≡ map (below count) (take k places) → AreParentPlaces soc found
parents_are soc count k places found is long all are written = record {
  long = ap length whole ∙ length-map places (below (length soc.modules)) ∙ long;
  are = λ p less.
      (let h : HasParentAt soc places p = are p less in
      ap (λ l. slice_get l p) whole ∙ slice_get-map (below (length soc.modules)) places p ∙ ap (option_map (below (length soc.modules))) h.at ∙ ap Some (parent_is soc places p h.q less h h.at));
}
  where
    whole : found ≡ map (below (length soc.modules)) places
    whole = written ∙ ap (λ n. map (below n) (take k places)) is ∙ ap (map (below (length soc.modules))) (take_all k places all)

-- a list of the same length, written over another one
pub written_over : (n : ℕ) (xs ys : List ℕ) → n ≡ length ys → length xs ≡ length ys → take n (xs ++ drop (length xs) ys) ≡ xs
written_over n xs ys all long = grind (arith, common_steps)
