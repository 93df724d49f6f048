-- A stimulus that is found held stands in the cells, cell by cell.
use Rattle.std.proofs.Common.{◌≡◌, ℕ, zero, suc, ◌<◌, Bool, true, false, not, Some, List, [], ◌∷◌, length, get_or, map, option_map, refl, ap, sym, subst, ◌∙◌, arith, slice_get, ◌||◌, zip}
use Rattle.std.specs.List.{list_all}
use Rattle.std.proofs.lemmas.Bool.{and_parts}
use Rattle.std.proofs.lemmas.List.{length-map}
use Rattle.std.proofs.lemmas.Option.{slice_get-map, slice_get-get_or, get_or_from_slice_get, slice_get_within, same_Some}
use Rattle.plan_model.specs.Cells.{Cell, In, is_loaded}
use Rattle.plan_model.specs.Plans.{PlannedTest}
use Rattle.plan_model.specs.Runs.{Content, State, bits_at}
use Rattle.plan_model.specs.Right.{IsAt, HoldsStimulus}
use Rattle.bit_machine.specs.Chips.{same_bit, chain_holds, holds, HasAllBits}
use Rattle.bit_machine.proofs.PathBits.{holds_true}
use Rattle.bit_machine.proofs.LaneSteps.{all_zip}
use Rattle.common_lemmas.proofs.Lists.{from_map}

-- what all pairs keep, one keeps
from_all_zip : {X Y : Type 0} (P : X × Y → Bool) (xs : List X) (ys : List Y) (j : ℕ) {x : X} {y : Y} → list_all P (zip xs ys) ≡ true →
    slice_get xs j ≡ Some x → slice_get ys j ≡ Some y → P (x, y) ≡ true
from_all_zip P [] ys j all a b = absurd cc
from_all_zip P (z ∷ xs) [] j all a b = absurd cc
from_all_zip P (z ∷ xs) (v ∷ ys) zero {x} {y} all a b =
    let e = same_Some _ _ a in
    let f = same_Some _ _ b in
    subst (λ x. P (x, y) ≡ true) e (subst (λ y. P (z, y) ≡ true) f ((and_parts (P (z, v)) (list_all P (zip xs ys)) all).0))
from_all_zip P (z ∷ xs) (v ∷ ys) (suc j) all a b = from_all_zip P xs ys j ((and_parts (P (z, v)) (list_all P (zip xs ys)) all).1) a b

same_bit_is : (a b : Bool) → same_bit a b ≡ true → a ≡ b
same_bit_is true true e = refl
same_bit_is true false e = sym e
same_bit_is false true e = e
same_bit_is false false e = refl

loaded_is : (l : Bool) (a b : Bool) → l ≡ true → (not l || same_bit a b) ≡ true → a ≡ b
loaded_is true a b e h = same_bit_is a b h
loaded_is false a b e h = absurd cc

-- the lengths of the chains
lengths_at : (tests : List PlannedTest) (state : State) (i : ℕ) {t : PlannedTest} → HasAllBits tests state → IsAt tests i t →
    map (λ (bits : List Bool). length bits) (get_or state i []) ≡ map (λ (cells : List Cell). length cells) t.chains
lengths_at tests state i {t} all at =
    let there : slice_get (map (λ (t : PlannedTest). map (λ (cells : List Cell). length cells) t.chains) tests) i ≡ Some (map (λ (cells : List Cell). length cells) t.chains) =
    slice_get-map (λ (t : PlannedTest). map (λ (cells : List Cell). length cells) t.chains) tests i ∙ ap (option_map (λ (t : PlannedTest). map (λ (cells : List Cell). length cells) t.chains)) at in
    let f = from_map (map (λ (bits : List Bool). length bits)) state i (map (λ (cells : List Cell). length cells) t.chains) (ap (λ v. slice_get v i) all ∙ there) in
    ap (map (λ (bits : List Bool). length bits)) (get_or_from_slice_get state i f.0 [] f.1) ∙ f.2

record ChainAt (state : State) (i j : ℕ) (cells : List Cell) : Type 0 where
  pub there : slice_get (get_or state i []) j ≡ Some (bits_at state i j)
  pub long : length (bits_at state i j) ≡ length cells

chain_at_place : (tests : List PlannedTest) (state : State) (i j : ℕ) {t : PlannedTest} {cells : List Cell} → HasAllBits tests state →
    IsAt tests i t → slice_get t.chains j ≡ Some cells → ChainAt state i j cells
chain_at_place tests state i j {t} {cells} all at there =
    let seen : slice_get (map (λ (cells : List Cell). length cells) t.chains) j ≡ Some (length cells) = slice_get-map (λ (cells : List Cell). length cells) t.chains j ∙ ap (option_map (λ (cells : List Cell). length cells)) there in
    let f = from_map (λ (bits : List Bool). length bits) (get_or state i []) j (length cells) (ap (λ v. slice_get v j) (lengths_at tests state i all at) ∙ seen) in
    let is = get_or_from_slice_get (get_or state i []) j f.0 [] f.1 in
    record { there = f.1 ∙ ap Some (sym is); long = ap length is ∙ f.2 }

pub held_is_stimulus : (content : Content) (tests : List PlannedTest) (state : State) (i : ℕ) (t : PlannedTest) (k : ℕ) → IsAt tests i t → HasAllBits tests state → holds (content.stimulus t.id k) t.chains (get_or state i []) ≡ true →
    HoldsStimulus content state i t k
held_is_stimulus content tests state i t k at all held j r cells x there cell loaded =
    let c = chain_at_place tests state i j all at there in
    let chain : chain_holds (content.stimulus t.id k) cells (bits_at state i j) ≡ true =
    from_all_zip (λ (p : List Cell × List Bool). chain_holds (content.stimulus t.id k) p.0 p.1) t.chains (get_or state i []) j held there c.there in
    let within = slice_get_within cells r x cell in
    let bit = slice_get-get_or (bits_at state i j) r false (omega arith) in
    let pair = from_all_zip (λ (p : Cell × Bool). not (is_loaded p.0) || same_bit p.1 (content.stimulus t.id k p.0)) cells (bits_at state i j) r chain cell bit in
    bit ∙ ap Some (loaded_is (is_loaded x) (get_or (bits_at state i j) r false) (content.stimulus t.id k x) loaded pair)

pub stimulus_is_held : (content : Content) (tests : List PlannedTest) (state : State) (i : ℕ) (t : PlannedTest) (k : ℕ) → IsAt tests i t → HasAllBits tests state → HoldsStimulus content state i t k →
    holds (content.stimulus t.id k) t.chains (get_or state i []) ≡ true
stimulus_is_held content tests state i t k at all stands =
    all_zip (λ (p : List Cell × List Bool). chain_holds (content.stimulus t.id k) p.0 p.1) [] [] t.chains (get_or state i []) many (λ j h. chain j h)
  where
    many : length (get_or state i []) ≡ length t.chains
    many = sym (length-map (get_or state i []) (λ (bits : List Bool). length bits)) ∙ ap length (lengths_at tests state i all at) ∙ length-map t.chains (λ (cells : List Cell). length cells)

    chain : (j : ℕ) → j < length t.chains → chain_holds (content.stimulus t.id k) (get_or t.chains j []) (get_or (get_or state i []) j []) ≡ true
    chain j h =
        let there = slice_get-get_or t.chains j [] h in
        let c = chain_at_place tests state i j all at there in
        holds_true (content.stimulus t.id k) (get_or t.chains j []) (bits_at state i j) c.long (λ r less loaded.
        let cell = slice_get-get_or (get_or t.chains j []) r (In 0) less in
        get_or_from_slice_get (bits_at state i j) r (content.stimulus t.id k (get_or (get_or t.chains j []) r (In 0))) false (stands j r (get_or t.chains j []) (get_or (get_or t.chains j []) r (In 0)) there cell loaded))
