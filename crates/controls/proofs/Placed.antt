-- The live tests of a chip, with what their controls are made from: module by module.
use Rattle.std.proofs.Common.{◌≡◌, ℕ, zero, suc, ◌+◌, ◌≤◌, Bool, true, false, cond, Some, List, [], ◌∷◌, ◌++◌, length, map, take, drop, refl, ap, sym, ◌∙◌, arith, inl, inr, add-zero, append_assoc, append-nil, slice_get, filter}
use Rattle.std.proofs.lemmas.Bool.{cases_Bool}
use Rattle.std.proofs.lemmas.List.{drop_all, drop_more, length-append, map-append, take_more}
use Rattle.std.proofs.lemmas.List.Elements.{filter-append}
use Rattle.std.proofs.lemmas.Option.{slice_get_within, get_or_from_slice_get}
use Rattle.soc_model.specs.declared.Test.{Test}
use Rattle.soc_model.specs.Chips.{ModuleValue, SocValue, is_live, live_of, live_from, live_tests}
use Rattle.soc_model.specs.Modes.{has_tam}
use Rattle.soc_model.specs.SoundChips.{IsSoundChip}
use Rattle.soc_model.proofs.Limits.{modules-le}
use Rattle.plan_model.specs.Plans.{PlanValue, end_of, planned_test}
use Rattle.plan_model.specs.declared.moments.Phases.{Phases}
use Rattle.live_tests.specs.Placed.{placed_of}
use Rattle.live_tests.specs.declared.placed.PlacedTest.{PlacedTest}
use Rattle.live_tests.specs.Wrapped.{IsModeWrapper}
use Rattle.live_tests.specs.declared.wrapped.ModeWrapper.{ModeWrapper}
use Rattle.controls.specs.declared.placing.ControlledTest.{ControlledTest}
use Rattle.controls.specs.Tests.{controlled, controlled_in, controlled_live, phases_of, tam_before}
use Rattle.common_lemmas.proofs.Lists.{map_twice}
use Rattle.common_lemmas.proofs.Tests.{none_at, one_at}

-- ---- phases

module _ (plan : PlanValue) (m : ModuleValue) (t : Test) where
  pub no_phases : t.tam ≡ false → (let p : Phases = record { setup = 0; si = 0; so = 0; patterns = 1 } in p) ≡ phases_of plan m t
  no_phases self = rw self refl

  pub long_phases : {w : ModeWrapper} → t.tam ≡ true → IsModeWrapper plan m t.scan w →
      (let p : Phases = record { setup = m.setup; si = w.si; so = w.so; patterns = t.patterns } in p) ≡ phases_of plan m t
  long_phases tam is = rw (tam, is.si, is.so, is.first) refl

-- ---- how many modules with a test over the wires come before

counted : (b : Bool) (m : ModuleValue) → length (cond b (m ∷ []) []) ≡ cond b 1 0
counted true m = refl
counted false m = refl

module _ (soc : SocValue) (place : ℕ) {m : ModuleValue} (at : slice_get soc.modules place ≡ Some m) where
  pub tam_more : tam_before soc (place + 1) ≡ tam_before soc place + cond (has_tam m) 1 0
  tam_more =
      ap (λ (ms : List ModuleValue). length (filter has_tam ms)) (take_more soc.modules place m (slice_get_within soc.modules place m at) ∙ ap (λ (x : ModuleValue). take place soc.modules ++ x ∷ []) (get_or_from_slice_get soc.modules place m m at))
      ∙ ap length (filter-append has_tam (take place soc.modules) (m ∷ []))
      ∙ length-append (filter has_tam (take place soc.modules)) (filter has_tam (m ∷ []))
      ∙ ap (λ n. tam_before soc place + n) (counted (has_tam m) m)

  pub tam_there : {before : ℕ} {b : Bool} → b ≡ has_tam m → b ≡ true → before ≡ tam_before soc place → before + 1 ≡ tam_before soc (place + 1)
  tam_there is yes' was =
      sym (tam_more ∙ ap (λ n. tam_before soc place + n) (one_at (has_tam m) (sym is ∙ yes')) ∙ ap (λ n. n + 1) (sym was))

  pub tam_none : {before : ℕ} {b : Bool} → b ≡ has_tam m → b ≡ false → before ≡ tam_before soc place → before ≡ tam_before soc (place + 1)
  tam_none is no' was =
      sym (tam_more ∙ ap (λ n. tam_before soc place + n) (none_at (has_tam m) (sym is ∙ no')) ∙ add-zero (tam_before soc place) ∙ sym was)

fewer-le : (p : ModuleValue → Bool) (k : ℕ) (ms : List ModuleValue) → length (filter p (take k ms)) ≤ length (filter p ms)
fewer-le p zero ms = omega arith
fewer-le p (suc k) [] = omega arith
fewer-le p (suc k) (m ∷ ms) = elim (cases_Bool (p m)) [
  | inl yes' ↦ rw yes' (let rest = fewer-le p k ms in omega arith)
  | inr no' ↦ rw no' (fewer-le p k ms)
]

-- no more than all of them
pub tam_before-le : (soc : SocValue) (place : ℕ) → tam_before soc place ≤ length (filter has_tam soc.modules)
tam_before-le soc place = fewer-le has_tam place soc.modules

filtered-le : (p : ModuleValue → Bool) (ms : List ModuleValue) → length (filter p ms) ≤ length ms
filtered-le p [] = omega arith
filtered-le p (m ∷ ms) = elim (cases_Bool (p m)) [
  | inl yes' ↦ rw yes' (let rest = filtered-le p ms in omega arith)
  | inr no' ↦ rw no' (let rest = filtered-le p ms in omega arith)
]

pub tam_before-small : {soc : SocValue} (place : ℕ) → IsSoundChip soc → tam_before soc place ≤ 1000
tam_before-small {soc} place sound = omega (arith, tam_before-le soc place, filtered-le has_tam soc.modules, modules-le soc sound.size)

-- ---- a test

pub test_is : (plan : PlanValue) (place before : ℕ) (m : ModuleValue) (t : Test) {p : PlacedTest} {f : Phases} →
    p ≡ placed_of (planned_test plan place m t) → f ≡ phases_of plan m t →
    (let k : ControlledTest = record { tam = t.tam; start = p.start; end = p.end; phases = f; before = before } in k) ≡ controlled plan place before m t
test_is plan place before m t {p} {f} placed is = ap (λ (p : PlacedTest). the_test p.start p.end f) placed ∙ ap (λ (f : Phases). the_test (planned_test plan place m t).start (end_of (planned_test plan place m t)) f) is
  where
    the_test : (start end : ℕ) → Phases → ControlledTest
    the_test start end f = record { tam = t.tam; start = start; end = end; phases = f; before = before }

-- ---- module by module

drop_at : (ms : List ModuleValue) (k : ℕ) {m : ModuleValue} → slice_get ms k ≡ Some m → drop k ms ≡ m ∷ drop (k + 1) ms
drop_at ms k {m} at = drop_more ms k m (slice_get_within ms k m at) ∙ ap (λ (x : ModuleValue). x ∷ drop (k + 1) ms) (get_or_from_slice_get ms k m m at)

module _ (soc : SocValue) (plan : PlanValue) where
  -- one module more
  pub module_more : (old : List ControlledTest) {new whole : List ControlledTest} (place : ℕ) {before : ℕ} {m : ModuleValue} →
      before ≡ tam_before soc place → slice_get soc.modules place ≡ Some m → new ≡ old ++ controlled_in plan place before m m.tests →
      old ++ map (controlled_live soc plan) (live_from place (drop place soc.modules)) ≡ whole →
      new ++ map (controlled_live soc plan) (live_from (place + 1) (drop (place + 1) soc.modules)) ≡ whole
  unfolding live_from
  module_more old place {before} {m} was at added so_far =
      let rest : List ControlledTest = map (controlled_live soc plan) (live_from (place + 1) (drop (place + 1) soc.modules)) in
      let here : map (controlled_live soc plan) (live_of place m) ≡ controlled_in plan place before m m.tests =
      map_twice (controlled_live soc plan) (λ (t : Test). record { place = place; core = m; test = t }) (filter is_live m.tests) ∙ ap (λ n. controlled_in plan place n m m.tests) (sym was) in
      let split : map (controlled_live soc plan) (live_from place (drop place soc.modules)) ≡ controlled_in plan place before m m.tests ++ rest =
      ap (λ (ms : List ModuleValue). map (controlled_live soc plan) (live_from place ms)) (drop_at soc.modules place at)
      ∙ map-append (controlled_live soc plan) (live_of place m) (live_from (place + 1) (drop (place + 1) soc.modules))
      ∙ ap (λ (l : List ControlledTest). l ++ rest) here in
      ap (λ (l : List ControlledTest). l ++ rest) added ∙ append_assoc old (controlled_in plan place before m m.tests) rest ∙ ap (λ (l : List ControlledTest). old ++ l) (sym split) ∙ so_far

  -- after the last one
  pub modules_all : (done : List ControlledTest) {whole : List ControlledTest} (place : ℕ) → length soc.modules ≤ place →
      done ++ map (controlled_live soc plan) (live_from place (drop place soc.modules)) ≡ whole → done ≡ whole
  unfolding live_from
  modules_all done place past so_far =
      let none = drop_all place soc.modules past in
      let so_far' = rw none at so_far in
      sym (append-nil done) ∙ so_far'

  -- before the first
  pub modules_none : {none : List ControlledTest} → none ≡ [] →
      none ++ map (controlled_live soc plan) (live_from 0 (drop 0 soc.modules)) ≡ map (controlled_live soc plan) (live_tests soc)
  modules_none is = ap (λ (l : List ControlledTest). l ++ map (controlled_live soc plan) (live_tests soc)) is
