-- The tests after each test, and those before it, are listed pair by pair.
use Rattle.std.proofs.Common.{◌≡◌, ◌⊎◌, inl, inr, ℕ, zero, suc, ◌+◌, ◌<◌, List, [], ◌∷◌, ◌++◌, length, get_or, take, map, Bool, true, false, cond, nat_eq, Some, sym, ◌∙◌, ap, arith, append-nil, refl}
use Rattle.std.specs.Prelude.{slice_get, slice_index_or, slice_set}
use Rattle.std.proofs.lemmas.Grind.{get_or-set_at}
use Rattle.std.proofs.lemmas.Bool.{cases_Bool, cases_eq, eqb-true, eq-eqb, ne_eqb}
use Rattle.std.proofs.lemmas.List.{take_more, map-set, get_or-map, length-map, length-set, get_or-set_other}
use Rattle.live_tests.specs.declared.neighbours.Neighbours.{Neighbours}
use Rattle.live_tests.specs.Neighbours.{tests_of, other_sides}

pub sides-append : (side other : ℕ × ℕ → ℕ) (i : ℕ) (a b : List (ℕ × ℕ)) → other_sides side other i (a ++ b) ≡ other_sides side other i a ++ other_sides side other i b
sides-append side other i [] b = refl
sides-append side other i (e ∷ a) b = by (nat_eq i (side e)) (sides-append side other i a b)
  where
    by : (t : Bool) → other_sides side other i (a ++ b) ≡ other_sides side other i a ++ other_sides side other i b → cond t (other e ∷ other_sides side other i (a ++ b)) (other_sides side other i (a ++ b)) ≡ cond t (other e ∷ other_sides side other i a) (other_sides side other i a) ++ other_sides side other i b
    by true f = ap (λ l. other e ∷ l) f
    by false f = f

-- what is among the other sides is one of a pair
pub sides_from : (side other : ℕ × ℕ → ℕ) (i : ℕ) (pairs : List (ℕ × ℕ)) (n x : ℕ) → slice_get (other_sides side other i pairs) n ≡ Some x → (k : ℕ) × (e : ℕ × ℕ) × (slice_get pairs k ≡ Some e) × (side e ≡ i) × (other e ≡ x)
sides_from side other i [] n x there = absurd cc
sides_from side other i (d ∷ pairs) n x there = elim (cases_Bool (nat_eq i (side d))) [
  | inl yes' ↦ here n (sym (eqb-true i (side d) yes')) (λ n t. sides_from side other i pairs n x t) (rw yes' at there)
  | inr no' ↦ let r = sides_from side other i pairs n x (rw no' at there) in (suc r.0, r.1, r.2, r.3, r.4)
]
  where
    here : (n : ℕ) → side d ≡ i → ((n : ℕ) → slice_get (other_sides side other i pairs) n ≡ Some x → (k : ℕ) × (e : ℕ × ℕ) × (slice_get pairs k ≡ Some e) × (side e ≡ i) × (other e ≡ x))
        → slice_get (other d ∷ other_sides side other i pairs) n ≡ Some x → (k : ℕ) × (e : ℕ × ℕ) × (slice_get (d ∷ pairs) k ≡ Some e) × (side e ≡ i) × (other e ≡ x)
    here zero is again there = (0, d, refl, is, cc)
    here (suc n) is again there = let r = again n there in (suc r.0, r.1, r.2, r.3, r.4)

-- the other side of a pair is among those of its side
pub sides_have : (side other : ℕ × ℕ → ℕ) (i : ℕ) (pairs : List (ℕ × ℕ)) (k : ℕ) (e : ℕ × ℕ) → slice_get pairs k ≡ Some e → side e ≡ i → (n : ℕ) × (slice_get (other_sides side other i pairs) n ≡ Some (other e))
sides_have side other i [] k e there is = absurd cc
sides_have side other i (d ∷ pairs) zero e there is =
    let same : d ≡ e = cc in
    let here : nat_eq i (side d) ≡ true = eq-eqb i (side d) (sym (ap side same ∙ is)) in
    (0, rw here (ap (λ (p : ℕ × ℕ). Some (other p)) same))
sides_have side other i (d ∷ pairs) (suc k) e there is = more (nat_eq i (side d)) (sides_have side other i pairs k e there is)
  where
    more : (t : Bool) → (n : ℕ) × (slice_get (other_sides side other i pairs) n ≡ Some (other e)) → (n : ℕ) × (slice_get (cond t (other d ∷ other_sides side other i pairs) (other_sides side other i pairs)) n ≡ Some (other e))
    more true r = (suc r.0, r.1)
    more false r = r

-- one pair more
pub sides_more : (side other : ℕ × ℕ → ℕ) (count : ℕ) (lists : List Neighbours) (pairs : List (ℕ × ℕ)) (k at : ℕ) (here new : Neighbours) → length lists ≡ count → ((i : ℕ) → i < count → slice_index_or (map tests_of lists) i [] ≡ other_sides side other i (take k pairs)) → k < length pairs
    → at ≡ side (get_or pairs k (0, 0)) → at < count → here ≡ get_or lists at here → tests_of new ≡ tests_of here ++ other (get_or pairs k (0, 0)) ∷ []
    → (length (slice_set lists at new) ≡ count) × ((i : ℕ) → i < count → slice_index_or (map tests_of (slice_set lists at new)) i [] ≡ other_sides side other i (take (k + 1) pairs))
sides_more side other count lists pairs k at here new long are within key small is pushed =
    (length-set lists at new ∙ long, λ i less. ap (λ l. get_or l i []) (map-set tests_of lists at new) ∙ by i less (cases_eq i at))
  where
    there : at < length lists
    there = omega (arith, small, long)

    more : (i : ℕ) → other_sides side other i (take (k + 1) pairs) ≡ other_sides side other i (take k pairs) ++ cond (nat_eq i at) (other (get_or pairs k (0, 0)) ∷ []) []
    more i = ap (other_sides side other i) (take_more pairs k (0, 0) within) ∙ sides-append side other i (take k pairs) (get_or pairs k (0, 0) ∷ [])
        ∙ ap (λ (n : ℕ). other_sides side other i (take k pairs) ++ cond (nat_eq i n) (other (get_or pairs k (0, 0)) ∷ []) []) (sym key)

    by : (i : ℕ) → i < count → (i ≡ at) ⊎ (i ≡ at → ⊥) → get_or (slice_set (map tests_of lists) at (tests_of new)) i [] ≡ other_sides side other i (take (k + 1) pairs)
    by i less (inl same) =
        let old : tests_of here ≡ other_sides side other i (take k pairs) = ap tests_of is ∙ sym (get_or-map tests_of lists at here [] there) ∙ ap (λ n. get_or (map tests_of lists) n []) (sym same) ∙ are i less in
        get_or-set_at (map tests_of lists) at i (tests_of new) [] same (omega (arith, there, length-map lists tests_of))
        ∙ pushed ∙ ap (λ l. l ++ other (get_or pairs k (0, 0)) ∷ []) old ∙ sym (more i ∙ ap (λ b. other_sides side other i (take k pairs) ++ cond b (other (get_or pairs k (0, 0)) ∷ []) []) (eq-eqb i at same))
    by i less (inr apart) =
        get_or-set_other (map tests_of lists) at i (tests_of new) [] apart ∙ are i less
        ∙ sym (more i ∙ ap (λ b. other_sides side other i (take k pairs) ++ cond b (other (get_or pairs k (0, 0)) ∷ []) []) (ne_eqb i at apart) ∙ append-nil (other_sides side other i (take k pairs)))
