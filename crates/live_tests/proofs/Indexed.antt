-- Buses, wrappers and starts are noted by number, from the last one back to the first.
use mathlib.Core.Bool.{beq}
use Rattle.std.proofs.Common.{◌≡◌, ℕ, suc, ◌+◌, ◌<◌, Bool, true, false, ◌&&◌, cond, Option, Some, List, [], ◌∷◌, length, get_or, map, drop, nat_eq, position, refl, sym, ap, ◌∙◌, arith, inl, inr}
use Rattle.std.specs.Prelude.{unwrap_or}
use Rattle.std.specs.List.{list_any, position_from}
use Rattle.std.specs.Map.{lookup}
use Rattle.std.proofs.Math.Seq.{drop-cons}
use Rattle.std.proofs.lemmas.Bool.{cases_Bool}
use Rattle.std.proofs.lemmas.Iterator.Adapters.{position_from-zero}
use Rattle.std.proofs.lemmas.List.{get_or-map, length-map}
use Rattle.soc_model.specs.declared.TestId.{TestId}
use Rattle.soc_model.specs.Chips.{same_test}
use Rattle.plan_model.specs.declared.Bus.{Bus}
use Rattle.plan_model.specs.declared.Wrapper.{Wrapper}
use Rattle.plan_model.specs.Plans.{WrapperValue, bus_place, has_module, of_first, same_mode, wraps}
use Rattle.plan_model.specs.Views.{bus_value, wrapper_value}
use Rattle.live_tests.proofs.Indexing.{same_test_turned}

-- a list that is seen by `f`, from a place on
drop_seen : {X Y : Type 0} (f : X → Y) (xs : List X) (k : ℕ) (x : X) → k < length xs → x ≡ get_or xs k x → drop k (map f xs) ≡ f x ∷ drop (suc k) (map f xs)
drop_seen f xs k x within is =
    drop-cons (map f xs) k (f x) (omega (arith, within, length-map xs f)) ∙ ap (λ y. y ∷ drop (suc k) (map f xs)) (get_or-map f xs k x (f x) within ∙ ap f (sym is))

-- one bus more, in front of those that are noted
pub buses_more : (bs : List Bus) (n k place : ℕ) (b : Bus) (listed : List ℕ) (old new : ℕ → Option ℕ) → k + 1 ≡ place → k < length bs → b ≡ get_or bs k b → listed ≡ (get_or bs k b).modules.items → ((m : ℕ) → unwrap_or (old m) n ≡ bus_place m place (drop place (map bus_value bs)))
    → ((m : ℕ) → new m ≡ cond (list_any (nat_eq m) listed) (Some k) (old m)) → (m : ℕ) → unwrap_or (new m) n ≡ bus_place m k (drop k (map bus_value bs))
buses_more bs n k place b listed old new next within is same before added m =
    let step : suc k ≡ place = omega (arith, next) in
    let here : drop k (map bus_value bs) ≡ bus_value b ∷ drop place (map bus_value bs) = drop_seen bus_value bs k b within is ∙ ap (λ i. bus_value b ∷ drop i (map bus_value bs)) step in
    let noted : new m ≡ cond (has_module m (bus_value b)) (Some k) (old m) = added m ∙ ap (λ (l : List ℕ). cond (list_any (nat_eq m) l) (Some k) (old m)) (same ∙ ap (λ (b : Bus). b.modules.items) (sym is)) in
    elim (cases_Bool (has_module m (bus_value b))) [
      | inl yes' ↦ rw (here, noted, yes') refl
      | inr no' ↦ rw (here, noted, no', next) (before m)
    ]

same_mode_turned : (a b : Bool) → beq a b ≡ same_mode a b
same_mode_turned true true = refl
same_mode_turned true false = refl
same_mode_turned false true = refl
same_mode_turned false false = refl

-- one wrapper more, in front of those that are noted
pub wrappers_more : (ws : List Wrapper) (k place : ℕ) (w : Wrapper) (old new : ℕ → Bool → Option ℕ) → k + 1 ≡ place → k < length ws → w ≡ get_or ws k w → ((m : ℕ) (scan : Bool) → old m scan ≡ position_from (wraps m scan) place (drop place (map wrapper_value ws)))
    → ((m : ℕ) (scan : Bool) → new m scan ≡ cond (nat_eq w.«module» m && beq w.scan scan) (Some k) (old m scan)) → (m : ℕ) (scan : Bool) → new m scan ≡ position_from (wraps m scan) k (drop k (map wrapper_value ws))
wrappers_more ws k place w old new next within is before added m scan =
    let step : suc k ≡ place = omega (arith, next) in
    let here : drop k (map wrapper_value ws) ≡ wrapper_value w ∷ drop place (map wrapper_value ws) = drop_seen wrapper_value ws k w within is ∙ ap (λ i. wrapper_value w ∷ drop i (map wrapper_value ws)) step in
    added m scan ∙ ap (λ (b : Bool). cond (nat_eq w.«module» m && b) (Some k) (old m scan)) (same_mode_turned w.scan scan)
    ∙ ap (λ (o : Option ℕ). cond (wraps m scan (wrapper_value w)) (Some k) o) (before m scan ∙ ap (λ i. position_from (wraps m scan) i (drop place (map wrapper_value ws))) (sym next))
    ∙ ap (position_from (wraps m scan) k) (sym here)

-- when all are noted
pub wrappers_all : (ws : List WrapperValue) (m : ℕ) (scan : Bool) → position_from (wraps m scan) 0 ws ≡ position (wraps m scan) ws
wrappers_all ws m scan = sym (position_from-zero (wraps m scan) ws)

pub start_found : (id : TestId) (starts : List (TestId × ℕ)) → unwrap_or (lookup (same_test id) starts) 0 ≡ of_first (λ (s : TestId × ℕ). same_test s.0 id) (λ s. s.1) 0 starts
start_found id [] = refl
start_found id (s ∷ ss) = elim (cases_Bool (same_test id s.0)) [
  | inl yes' ↦ rw (yes', sym (same_test_turned id s.0) ∙ yes') refl
  | inr no' ↦ rw (no', sym (same_test_turned id s.0) ∙ no') (start_found id ss)
]
