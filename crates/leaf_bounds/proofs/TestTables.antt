-- The table of live tests, module by module, and which are over the wires.
use Rattle.std.proofs.Common.{◌≡◌, ℕ, ◌+◌, ◌≤◌, Bool, Some, List, [], ◌∷◌, ◌++◌, length, map, drop, refl, sym, ap, ◌∙◌, append_assoc, append-nil, zero, suc, true, false, take, subst, arith, inl, inr, ◌⊎◌, add-one, slice_get, filter}
use Rattle.std.specs.List.{range_with_len}
use Rattle.std.proofs.lemmas.List.{drop_all, drop_more, map-append, length-append, take_all}
use Rattle.std.proofs.lemmas.Option.{get_or_from_slice_get, slice_get_within}
use Rattle.soc_model.specs.declared.Test.{Test}
use Rattle.soc_model.specs.Chips.{LiveTest, ModuleValue, is_live, live_of, live_from, SocValue, live_tests}
use Rattle.std.proofs.lemmas.Bool.{cases_Bool}
use Rattle.std.proofs.lemmas.List.FromFn.{map-range_with_len_more}
use Rattle.plan_model.specs.declared.Limits.{Limits}
use Rattle.plan_model.proofs.Lists.{from_append}
use Rattle.bound_rules.proofs.Modules.{the_live}
use Rattle.leaf_bounds.specs.declared.test_table.TestPlace.{TestPlace}
use Rattle.leaf_bounds.specs.TestTables.{IsTestAt, AreTestsAt, tests_before}

-- ==== which live tests are over the wires, module by module

abbrev pub tam_of : LiveTest → Bool
tam_of l = l.test.tam

-- those of a module
abbrev pub tams_in : ModuleValue → List Bool
tams_in m = map (λ (t : Test). t.tam) (filter is_live m.tests)

of_module : (place : ℕ) (m : ModuleValue) → map tam_of (live_of place m) ≡ tams_in m
of_module place m = go (filter is_live m.tests)
  where
    go : (ts : List Test) → map tam_of (map (λ (t : Test). record { place = place; core = m; test = t }) ts) ≡ map (λ (t : Test). t.tam) ts
    go [] = refl
    go (t ∷ ts) = ap (λ l. t.tam ∷ l) (go ts)

-- one module more
pub tams_more : (ms : List ModuleValue) (old : List Bool) {new whole : List Bool} (place : ℕ) {m : ModuleValue} → slice_get ms place ≡ Some m → new ≡ old ++ tams_in m →
    old ++ map tam_of (live_from place (drop place ms)) ≡ whole → new ++ map tam_of (live_from (place + 1) (drop (place + 1) ms)) ≡ whole
unfolding live_from
tams_more ms old place {m} at added before =
    let first = drop_more ms place m (slice_get_within ms place m at) ∙ ap (λ x. x ∷ drop (place + 1) ms) (get_or_from_slice_get ms place m m at) in
    let split = ap (λ l. map tam_of (live_from place l)) first
    ∙ map-append tam_of (live_of place m) (live_from (place + 1) (drop (place + 1) ms))
    ∙ ap (λ l. l ++ map tam_of (live_from (place + 1) (drop (place + 1) ms))) (of_module place m) in
    ap (λ l. l ++ map tam_of (live_from (place + 1) (drop (place + 1) ms))) added
    ∙ append_assoc old (tams_in m) (map tam_of (live_from (place + 1) (drop (place + 1) ms)))
    ∙ ap (λ l. old ++ l) (sym split) ∙ before

-- after the last module
pub tams_done : (ms : List ModuleValue) (done : List Bool) {whole : List Bool} (place : ℕ) → length ms ≤ place →
    done ++ map tam_of (live_from place (drop place ms)) ≡ whole → done ≡ whole
unfolding live_from
tams_done ms done place past before =
    let before' = rw (drop_all place ms past) at before in
    sym (append-nil done) ∙ before'

-- ==== the table of live tests, module by module

-- ---- the live ones of the first tests of a module

module _ (place : ℕ) (m : ModuleValue) where
  abbrev pub live_front : List Test → ℕ → List LiveTest
  live_front ts n = map (the_live place m) (filter is_live (take n ts))

  pub front_live : (ts : List Test) (n : ℕ) {t : Test} → slice_get ts n ≡ Some t → is_live t ≡ true → live_front ts (suc n) ≡ live_front ts n ++ the_live place m t ∷ []
  front_live [] n at live = absurd cc
  front_live (x ∷ ts) zero {t} at live = let same : x ≡ t = cc in rw (same, live) refl
  front_live (x ∷ ts) (suc n) at live = elim (cases_Bool (is_live x)) [
    | inl yes' ↦ rw yes' (ap (λ l. the_live place m x ∷ l) (front_live ts n at live))
    | inr no' ↦ rw no' (front_live ts n at live)
  ]

  pub front_dead : (ts : List Test) (n : ℕ) {t : Test} → slice_get ts n ≡ Some t → is_live t ≡ false → live_front ts (suc n) ≡ live_front ts n
  front_dead [] n at dead = absurd cc
  front_dead (x ∷ ts) zero {t} at dead = let same : x ≡ t = cc in rw (same, dead) refl
  front_dead (x ∷ ts) (suc n) at dead = elim (cases_Bool (is_live x)) [
    | inl yes' ↦ rw yes' (ap (λ l. the_live place m x ∷ l) (front_dead ts n at dead))
    | inr no' ↦ rw no' (front_dead ts n at dead)
  ]

  pub front_all : (n : ℕ) → length m.tests ≤ n → live_front m.tests n ≡ live_of place m
  front_all n all = ap (λ ts. map (the_live place m) (filter is_live ts)) (take_all n m.tests all)

-- ---- one live test more

module _ {soc : SocValue} {limits : Limits} {ls : List LiveTest} {ts : List TestPlace} where
  pub at_none : AreTestsAt soc limits ls ts → AreTestsAt soc limits (ls ++ []) ts
  at_none are = rw (append-nil ls) are

  pub at_push : {l : LiveTest} {t : TestPlace} → AreTestsAt soc limits ls ts → IsTestAt soc limits l t → AreTestsAt soc limits (ls ++ l ∷ []) (ts ++ t ∷ [])
  at_push {l} {t} are is = record {
    long = omega (arith, length-append ts (t ∷ []), length-append ls (l ∷ []), are.long);
    at = λ i x y at-x at-y. go i x y (from_append ls (l ∷ []) i x at-x) (from_append ts (t ∷ []) i y at-y);
  }
    where
      last : {X : Type 0} (j : ℕ) (x y : X) → slice_get (x ∷ []) j ≡ Some y → x ≡ y
      last zero x y e = cc
      last (suc j) x y e = absurd cc

      go : (i : ℕ) (x : LiveTest) (y : TestPlace) → (slice_get ls i ≡ Some x) ⊎ ((j : ℕ) × (i ≡ length ls + j) × (slice_get (l ∷ []) j ≡ Some x)) →
          (slice_get ts i ≡ Some y) ⊎ ((j : ℕ) × (i ≡ length ts + j) × (slice_get (t ∷ []) j ≡ Some y)) → IsTestAt soc limits x y
      go i x y (inl a) (inl b) = are.at i x y a b
      go i x y (inl a) (inr b) = absurd (omega (arith, slice_get_within ls i x a, b.1, are.long))
      go i x y (inr a) (inl b) = absurd (omega (arith, slice_get_within ts i y b, a.1, are.long))
      go i x y (inr a) (inr b) = rw (← last a.0 l x a.2, ← last b.0 t y b.2) is

-- one test of a module more, which is live
pub at_next : (soc : SocValue) (limits : Limits) (ls : List LiveTest) {old new : List TestPlace} (place : ℕ) (m : ModuleValue) (n : ℕ) {t : Test} (p : TestPlace) →
    slice_get m.tests n ≡ Some t → is_live t ≡ true → new ≡ old ++ p ∷ [] → IsTestAt soc limits (the_live place m t) p →
    AreTestsAt soc limits (ls ++ live_front place m m.tests n) old → AreTestsAt soc limits (ls ++ live_front place m m.tests (n + 1)) new
at_next soc limits ls place m n {t} p at live new-is is are =
    let more : ls ++ live_front place m m.tests (n + 1) ≡ (ls ++ live_front place m m.tests n) ++ the_live place m t ∷ [] =
    rw add-one (ap (λ x. ls ++ x) (front_live place m m.tests n at live) ∙ sym (append_assoc ls (live_front place m m.tests n) (the_live place m t ∷ []))) in
    rw (more, new-is) (at_push are is)

module _ {soc : SocValue} {limits : Limits} (ls : List LiveTest) {ts : List TestPlace} (place : ℕ) (m : ModuleValue) (n : ℕ) where
  -- or isn't
  pub at_passed : {t : Test} → slice_get m.tests n ≡ Some t → is_live t ≡ false → AreTestsAt soc limits (ls ++ live_front place m m.tests n) ts →
      AreTestsAt soc limits (ls ++ live_front place m m.tests (n + 1)) ts
  at_passed at dead are = rw (add-one, front_dead place m m.tests n at dead) are

  pub at_all : length m.tests ≤ n → AreTestsAt soc limits (ls ++ live_front place m m.tests n) ts → AreTestsAt soc limits (ls ++ live_of place m) ts
  at_all all are = rw (← front_all place m n all) are

-- ---- one module more

pub live_more : (base : ℕ) (ms : List ModuleValue) (p : ℕ) {m : ModuleValue} → slice_get ms p ≡ Some m →
    live_from base (take (suc p) ms) ≡ live_from base (take p ms) ++ live_of (base + p) m
unfolding live_from
live_more base [] p at = absurd cc
live_more base (x ∷ ms) zero {m} at =
    let same : x ≡ m = cc in
    let here : base + 0 ≡ base = omega arith in
    rw (same, here) (append-nil (live_of base m))
live_more base (x ∷ ms) (suc p) {m} at =
    let here : base + suc p ≡ base + 1 + p = omega arith in
    rw here (ap (λ l. live_of base x ++ l) (live_more (base + 1) ms p at) ∙ sym (append_assoc (live_of base x) (live_from (base + 1) (take p ms)) (live_of (base + 1 + p) m)))

pub live_next : (ms : List ModuleValue) (p : ℕ) {m : ModuleValue} → slice_get ms p ≡ Some m → live_from 0 (take (p + 1) ms) ≡ live_from 0 (take p ms) ++ live_of p m
live_next ms p {m} at = let here : 0 + p ≡ p = omega arith in rw add-one (live_more 0 ms p at ∙ ap (λ q. live_from 0 (take p ms) ++ live_of q m) here)

module _ (soc : SocValue) (limits : Limits) (ts : List TestPlace) where
  pub at_start : ts ≡ [] → AreTestsAt soc limits (live_from 0 []) ts
  unfolding live_from
  at_start none = rw none (record { long = refl; at = λ i l t at-l at-t. absurd cc })

  pub at_more : (p : ℕ) (m : ModuleValue) → slice_get soc.modules p ≡ Some m → AreTestsAt soc limits (live_from 0 (take p soc.modules) ++ live_of p m) ts →
      AreTestsAt soc limits (live_from 0 (take (p + 1) soc.modules)) ts
  at_more p m at are = rw (live_next soc.modules p at) are

  pub at_end : (p : ℕ) → p ≡ length soc.modules → AreTestsAt soc limits (live_from 0 (take p soc.modules)) ts → AreTestsAt soc limits (live_tests soc) ts
  at_end p end are = subst (λ ms. AreTestsAt soc limits (live_from 0 ms) ts) (take_all p soc.modules (omega arith)) are

module _ (soc : SocValue) (limits : Limits) (ts : List TestPlace) (p len : ℕ) (old new : List ℕ) where
  -- where the tests of a module begin
  pub starts_more : len ≡ length ts → new ≡ old ++ len ∷ [] → AreTestsAt soc limits (live_from 0 (take p soc.modules)) ts →
      old ≡ map (tests_before soc) (range_with_len 0 p) → new ≡ map (tests_before soc) (range_with_len 0 (p + 1))
  starts_more is more are before =
      more ∙ rw ((is ∙ are.long), before) (sym (map-range_with_len_more (tests_before soc) 0 p p (omega arith)))

  pub starts_end : p ≡ length soc.modules → len ≡ length ts → new ≡ old ++ len ∷ [] → AreTestsAt soc limits (live_from 0 (take p soc.modules)) ts →
      old ≡ map (tests_before soc) (range_with_len 0 p) → new ≡ map (tests_before soc) (range_with_len 0 (length soc.modules + 1))
  starts_end end is more are before = starts_more is more are before ∙ ap (λ n. map (tests_before soc) (range_with_len 0 (n + 1))) end
