-- In a good plan the controls say what each test does.
use Rattle.std.proofs.Common.{◌≡◌, ℕ, zero, suc, ◌+◌, ◌-◌, ◌≤◌, ◌<◌, ◌⊎◌, Bool, true, false, true≢false, cond, ◌&&◌, ◌||◌, Option, None, Some, List, [], ◌∷◌, ◌++◌, length, map, max, replicate, eqb, leb, ltb, refl, ap, sym, subst, ◌∙◌, arith, inl, inr, slice_get, option_map, flat_map}
use Rattle.std.specs.List.{list_any, range_with_len}
use Rattle.std.proofs.lemmas.Bool.{and_from, and_parts, cases_Bool, cases_order, eq-eqb, eqb-true, false_from_ne_true, le-leb, leb-true, lt-ltb, ltb-true, or_cases}
use Rattle.std.proofs.lemmas.Option.{same_Some, slice_get-get_or, slice_get-map, slice_get_within}
use Rattle.soc_model.specs.declared.Test.{Test}
use Rattle.soc_model.specs.declared.TestId.{TestId}
use Rattle.soc_model.specs.Chips.{ModuleValue, SocValue, id_of, live_tests, same_test}
use Rattle.soc_model.specs.SoundChips.{IsSoundChip}
use Rattle.soc_model.proofs.Places.{IsKeyed-from_sound, module-unique}
use Rattle.plan_model.specs.Operations.{Operation, Setup, Shift, Capture, SelfTest, capture_and_shifts, ops_of}
use Rattle.plan_model.specs.Plans.{PlanValue, LimitsValue, PlannedTest, end_of, is_active, planned, planned_test}
use Rattle.plan_model.specs.Right.{IsAt}
use Rattle.plan_model.specs.Rules.{IsGood, Busy, live_ids}
use Rattle.plan_model.specs.Runs.{Content, bits_at, chain_at, each_chain, next_bits, operation_at, run_with, step}
use Rattle.plan_model.proofs.CertificatesAreBounds.{is_same_test, same_test_is}
use Rattle.plan_model.proofs.ChainsInTheRun.{at_operation, idle_before}
use Rattle.plan_model.proofs.GoodPlansRunRight.{planned_place}
use Rattle.plan_model.proofs.Lists.{any_from, from_append, from_flat_map}
use Rattle.plan_model.proofs.LoadsAndReads.{IsTamTest, begun_at}
use Rattle.plan_model.proofs.PlannedTests.{Origin, origin}
use Rattle.plan_model.proofs.TestsInGoodPlans.{is_tam_test}
use Rattle.live_tests.proofs.LiveIds.{ids_differ}
use Rattle.controls.specs.Controls.{capture_of, control_at, is_capture, is_shift, run_of, shift_of}
use Rattle.controls.specs.Said.{IsOver, RunThePlan, captures_before, run_by_controls, said, said_at, step_by_controls}
use Rattle.controls.proofs.Counting.{count_below, count_below-suc, count_below-zero, counted, counted_from}
use Rattle.common_lemmas.proofs.Lists.{any_at}

-- ---- a test at a cycle

active_parts : (t : PlannedTest) (c : ℕ) → is_active c t ≡ true → (t.start ≤ c) × (c < end_of t)
active_parts t c e = let p = and_parts (leb t.start c) (ltb c (end_of t)) e in (leb-true t.start c p.0, ltb-true c (end_of t) p.1)

does : (t : PlannedTest) (c : ℕ) → is_active c t ≡ true → (op : Operation) × (operation_at t c ≡ Some op) × (slice_get t.operations (c - t.start) ≡ Some op)
does t c e =
    let p = active_parts t c e in
    let begun : t.start ≤ c = p.0 in
    let before : c < t.start + length t.operations = p.1 in
    let there = slice_get-get_or t.operations (c - t.start) SelfTest (omega arith) in
    (_, at_operation t c begun ∙ there, there)

is_on : (t : PlannedTest) (c : ℕ) (op : Operation) → operation_at t c ≡ Some op → is_active c t ≡ true
is_on t c op e =
    let b = begun_at t c op e in
    let begun : t.start ≤ c = b.0 in
    let within : c - t.start < length t.operations = slice_get_within t.operations (c - t.start) op b.1 in
    and_from (leb t.start c) (ltb c (end_of t)) (le-leb t.start c begun) (lt-ltb c (end_of t) (omega arith))

idle : (t : PlannedTest) (c : ℕ) → is_active c t ≡ false → operation_at t c ≡ None
idle t c off = go (operation_at t c) refl where
  go : (o : Option Operation) → operation_at t c ≡ o → operation_at t c ≡ None
  go None e = e
  go (Some op) e = absurd (true≢false (sym (is_on t c op e) ∙ off))

-- what tells that a test does something tells that it is active
seen_on : (t : PlannedTest) (c : ℕ) (f : Option Operation → Bool) → f None ≡ false → f (operation_at t c) ≡ true → is_active c t ≡ true
seen_on t c f none seen = go (operation_at t c) refl where
  go : (o : Option Operation) → operation_at t c ≡ o → is_active c t ≡ true
  go None e = absurd (true≢false (sym seen ∙ ap f e ∙ none))
  go (Some op) e = is_on t c op e

-- ---- operations over the wires and of self tests

over : Operation → Bool
over Setup = true
over Shift = true
over (Capture k) = true
over SelfTest = false

from_replicate : (n i : ℕ) (x y : Operation) → slice_get (replicate n x) i ≡ Some y → x ≡ y
from_replicate zero i x y e = absurd cc
from_replicate (suc n) zero x y e = same_Some x y e
from_replicate (suc n) (suc i) x y e = from_replicate n i x y e

over_block : (b l p k j : ℕ) (op : Operation) → slice_get (capture_and_shifts b l p k) j ≡ Some op → over op ≡ true
unfolding over
over_block b l p k zero op e = ap over (sym (same_Some (Capture k) op e))
over_block b l p k (suc j) op e = ap over (sym (from_replicate _ j Shift op e))

over_wires : (setup si so p n : ℕ) (op : Operation) → slice_get (ops_of setup si so p) n ≡ Some op → over op ≡ true
unfolding over ops_of
over_wires setup si so p n op e = go (from_append (replicate setup Setup ++ replicate si Shift) (flat_map (capture_and_shifts (max si so) so p) (range_with_len 1 p)) n op e)
  where
    first : (slice_get (replicate setup Setup) n ≡ Some op) ⊎ ((j : ℕ) × (n ≡ length (replicate setup Setup) + j) × (slice_get (replicate si Shift) j ≡ Some op)) → over op ≡ true
    first (inl a) = ap over (sym (from_replicate setup n Setup op a))
    first (inr a) = ap over (sym (from_replicate si a.0 Shift op a.2))

    go : (slice_get (replicate setup Setup ++ replicate si Shift) n ≡ Some op)
        ⊎ ((j : ℕ) × (n ≡ length (replicate setup Setup ++ replicate si Shift) + j) × (slice_get (flat_map (capture_and_shifts (max si so) so p) (range_with_len 1 p)) j ≡ Some op)) → over op ≡ true
    go (inl a) = first (from_append (replicate setup Setup) (replicate si Shift) n op a)
    go (inr a) =
        let b = from_flat_map (capture_and_shifts (max si so) so p) (range_with_len 1 p) a.0 op a.2 in
        over_block (max si so) so p b.1 b.2 op b.4

planned_self : (plan : PlanValue) (place : ℕ) (m : ModuleValue) (test : Test) → (planned_test plan place m test).tam ≡ false → (planned_test plan place m test).operations ≡ replicate (planned_test plan place m test).patterns SelfTest
unfolding planned_test
planned_self plan place m test no' = rw no' refl

self_ops : (soc : SocValue) (plan : PlanValue) (i : ℕ) (t : PlannedTest) → IsAt (planned soc plan) i t → t.tam ≡ false → t.operations ≡ replicate t.patterns SelfTest
self_ops soc plan i t at self =
    let o : Origin soc plan i t = origin soc plan i t at in
    subst (λ (t : PlannedTest). t.tam ≡ false → t.operations ≡ replicate t.patterns SelfTest) o.is (planned_self plan o.l.place o.l.core o.l.test) self

-- ---- what is said

kinds : (op : Operation) (n : ℕ) → over op ≡ true → ((k : ℕ) → op ≡ Capture k → k ≡ suc n) → Some op ≡ Some (cond (is_shift (Some op)) Shift (cond (is_capture (Some op)) (Capture (suc n)) Setup))
unfolding over
kinds Setup n ok number = refl
kinds Shift n ok number = refl
kinds (Capture k) n ok number = ap (λ k. Some (Capture k)) (number k refl)
kinds SelfTest n ok number = absurd cc

said_over : (tam run shift capture : Bool) (n : ℕ) (op : Operation) → tam ≡ true → run ≡ true → shift ≡ is_shift (Some op) → capture ≡ is_capture (Some op) → over op ≡ true → ((k : ℕ) → op ≡ Capture k → k ≡ suc n) → Some op ≡ said tam run shift capture n
said_over tam run shift capture n op a b c d ok number = rw (a, b, c, d) (kinds op n ok number)

said_self : (tam run shift capture : Bool) (n : ℕ) → tam ≡ false → run ≡ true → Some SelfTest ≡ said tam run shift capture n
said_self tam run shift capture n a b = rw (a, b) refl

said_off : (tam run shift capture : Bool) (n : ℕ) → run ≡ false → None ≡ said tam run shift capture n
said_off tam run shift capture n a = rw a refl

-- ---- the tests of a good plan

planned_id : (plan : PlanValue) (place : ℕ) (m : ModuleValue) (t : Test) → (planned_test plan place m t).id ≡ record { «module» = m.number; test = t.number }
unfolding planned_test
planned_id plan place m t = refl

name_at : (soc : SocValue) (plan : PlanValue) (i : ℕ) (t : PlannedTest) → IsAt (planned soc plan) i t → slice_get (live_ids soc) i ≡ Some t.id
name_at soc plan i t at =
    let o : Origin soc plan i t = origin soc plan i t at in
    slice_get-map id_of (live_tests soc) i ∙ ap (option_map id_of) o.at ∙ ap Some (sym (planned_id plan o.l.place o.l.core o.l.test) ∙ ap (λ (t : PlannedTest). t.id) o.is)

module _ (soc : SocValue) (limits : LimitsValue) (plan : PlanValue) (sound : IsSoundChip soc) (good : IsGood soc limits plan) where
  same_name : (i j : ℕ) (t u : PlannedTest) → IsAt (planned soc plan) i t → IsAt (planned soc plan) j u → t.id ≡ u.id → i ≡ j
  same_name i j t u at there same = ids_differ soc sound i j t.id (name_at soc plan i t at) (name_at soc plan j u there ∙ ap Some (sym same))

  same_at : (i j : ℕ) (t u : PlannedTest) → IsAt (planned soc plan) i t → IsAt (planned soc plan) j u → i ≡ j → t ≡ u
  same_at i j t u at there same = same_Some t u (sym at ∙ ap (slice_get (planned soc plan)) same ∙ there)

  same_place : (i j : ℕ) (t u : PlannedTest) → IsAt (planned soc plan) i t → IsAt (planned soc plan) j u → t.id.«module» ≡ u.id.«module» → t.place ≡ u.place
  same_place i j t u at there same =
      let o : Origin soc plan i t = origin soc plan i t at in
      let o' : Origin soc plan j u = origin soc plan j u there in
      let a : t.id.«module» ≡ o.l.core.number = ap (λ (t : PlannedTest). t.id.«module») (sym o.is) ∙ ap (λ (id : TestId). id.«module») (planned_id plan o.l.place o.l.core o.l.test) in
      let b : u.id.«module» ≡ o'.l.core.number = ap (λ (t : PlannedTest). t.id.«module») (sym o'.is) ∙ ap (λ (id : TestId). id.«module») (planned_id plan o'.l.place o'.l.core o'.l.test) in
      let p : o.l.place ≡ t.place = sym (planned_place plan o.l.place o.l.core o.l.test) ∙ ap (λ (t : PlannedTest). t.place) o.is in
      let q : o'.l.place ≡ u.place = sym (planned_place plan o'.l.place o'.l.core o'.l.test) ∙ ap (λ (t : PlannedTest). t.place) o'.is in
      sym p ∙ module-unique (IsKeyed-from_sound sound) o.l.place o'.l.place o.l.core o'.l.core o.module_at o'.module_at (sym a ∙ same ∙ b) ∙ q

  -- no two tests of a module are active together
  together : (i j c : ℕ) (t u : PlannedTest) → IsAt (planned soc plan) i t → IsAt (planned soc plan) j u → t.id.«module» ≡ u.id.«module» → is_active c t ≡ true → is_active c u ≡ true → i ≡ j
  together i j c t u at there same on on' = elim (cases_order i j) [
    | inl equal ↦ equal
    | inr apart ↦ elim apart [
      | inl less ↦ absurd ((good Busy) i j c t u (record { first = at; second = there; order = less; related = same_place i j t u at there same; meet = (active_parts t c on, active_parts u c on') }))
      | inr more ↦ absurd ((good Busy) j i c u t (record { first = there; second = at; order = more; related = sym (same_place i j t u at there same); meet = (active_parts u c on', active_parts t c on) }))
    ]
  ]

  -- the control of a test
  pub run_is : (i c : ℕ) (t : PlannedTest) → IsAt (planned soc plan) i t → control_at (planned soc plan) c (run_of t.id) ≡ is_active c t
  run_is i c t at = elim (cases_Bool (is_active c t)) [
    | inl on ↦ any_from (λ (u : PlannedTest). same_test u.id t.id && is_active c u) (planned soc plan) i t at (and_from (same_test t.id t.id) (is_active c t) (is_same_test t.id) on) ∙ sym on
    | inr off ↦ false_from_ne_true (control_at (planned soc plan) c (run_of t.id)) (λ e.
        let a = any_at (λ (u : PlannedTest). same_test u.id t.id && is_active c u) (planned soc plan) e in
        let p = and_parts (same_test (a.1).id t.id) (is_active c a.1) a.3 in
        let equal : a.1 ≡ t = same_at a.0 i a.1 t a.2 at (same_name a.0 i a.1 t a.2 at (same_test_is (a.1).id t.id p.0)) in
        true≢false (sym p.1 ∙ ap (is_active c) equal ∙ off)) ∙ sym off
  ]

  -- a control of its module, while it is active
  sees : (f : Option Operation → Bool) → f None ≡ false → (i c : ℕ) (t : PlannedTest) → IsAt (planned soc plan) i t → is_active c t ≡ true →
      list_any (λ (u : PlannedTest). eqb u.id.«module» t.id.«module» && f (operation_at u c)) (planned soc plan) ≡ f (operation_at t c)
  sees f none i c t at on = elim (cases_Bool (f (operation_at t c))) [
    | inl yes' ↦ any_from (λ (u : PlannedTest). eqb u.id.«module» t.id.«module» && f (operation_at u c)) (planned soc plan) i t at (and_from (eqb t.id.«module» t.id.«module») (f (operation_at t c)) (eq-eqb t.id.«module» t.id.«module» refl) yes') ∙ sym yes'
    | inr no' ↦ false_from_ne_true (list_any (λ (u : PlannedTest). eqb u.id.«module» t.id.«module» && f (operation_at u c)) (planned soc plan)) (λ e.
        let a = any_at (λ (u : PlannedTest). eqb u.id.«module» t.id.«module» && f (operation_at u c)) (planned soc plan) e in
        let p = and_parts (eqb (a.1).id.«module» t.id.«module») (f (operation_at a.1 c)) a.3 in
        let equal : a.1 ≡ t = same_at a.0 i a.1 t a.2 at (together a.0 i c a.1 t a.2 at (eqb-true (a.1).id.«module» t.id.«module» p.0) (seen_on a.1 c f none p.1) on) in
        true≢false (sym p.1 ∙ ap (λ (u : PlannedTest). f (operation_at u c)) equal ∙ no')) ∙ sym no'
  ]

  -- its Captures so far
  capture_said : (i b : ℕ) (t : PlannedTest) → IsAt (planned soc plan) i t → (control_at (planned soc plan) b (run_of t.id) && control_at (planned soc plan) b (capture_of t.id.«module»)) ≡ is_capture (operation_at t b)
  capture_said i b t at = elim (cases_Bool (is_active b t)) [
    | inl on ↦ ap (λ v. v && control_at (planned soc plan) b (capture_of t.id.«module»)) (run_is i b t at ∙ on) ∙ sees is_capture refl i b t at on
    | inr off ↦ ap (λ v. v && control_at (planned soc plan) b (capture_of t.id.«module»)) (run_is i b t at ∙ off) ∙ sym (ap is_capture (idle t b off))
  ]

  count_is : (i : ℕ) (t : PlannedTest) → IsAt (planned soc plan) i t → (c : ℕ) → captures_before (planned soc plan) t c ≡ count_below (λ b. is_capture (operation_at t b)) c
  count_is i t at zero = sym (count_below-zero (λ b. is_capture (operation_at t b)))
  count_is i t at (suc c) =
      ap (λ n. n + cond (control_at (planned soc plan) c (run_of t.id) && control_at (planned soc plan) c (capture_of t.id.«module»)) 1 0) (count_is i t at c)
      ∙ ap (λ v. count_below (λ b. is_capture (operation_at t b)) c + cond v 1 0) (capture_said i c t at) ∙ sym (count_below-suc (λ b. is_capture (operation_at t b)) c)

  number_is : (i c k : ℕ) (t : PlannedTest) → IsAt (planned soc plan) i t → t.tam ≡ true → t.start ≤ c → slice_get t.operations (c - t.start) ≡ Some (Capture k) → k ≡ suc (captures_before (planned soc plan) t c)
  number_is i c k t at tam begun there =
      let is : IsTamTest t = is_tam_test soc plan i t at tam in
      let there' : slice_get (ops_of is.setup is.si is.so t.patterns) (c - t.start) ≡ Some (Capture k) = ap (λ (ops : List Operation). slice_get ops (c - t.start)) (sym is.operations) ∙ there in
      let cycle : c ≡ t.start + (c - t.start) = omega arith in
      counted is.setup is.si is.so t.patterns (c - t.start) k there'
      ∙ ap suc (sym (count_is i t at c ∙ ap (count_below (λ b. is_capture (operation_at t b))) cycle
      ∙ counted_from (λ b. is_capture (operation_at t b)) (λ j. is_capture (slice_get (ops_of is.setup is.si is.so t.patterns) j)) t.start (c - t.start) (λ j early. ap is_capture (idle_before t j early)) (λ j. ap is_capture (later j ∙ ap (λ (ops : List Operation). slice_get ops j) is.operations))))
    where
      later : (j : ℕ) → operation_at t (t.start + j) ≡ slice_get t.operations j
      later j = let n : t.start + j - t.start ≡ j = omega arith in at_operation t (t.start + j) (omega arith) ∙ ap (slice_get t.operations) n

  -- what the controls say of a test
  pub operation_is : (i c : ℕ) (t : PlannedTest) → IsAt (planned soc plan) i t → operation_at t c ≡ said_at (planned soc plan) t c
  unfolding said_at
  operation_is i c t at = elim (cases_Bool (is_active c t)) [
    | inl on ↦ elim (cases_Bool t.tam) [
      | inl tam ↦
          let d = does t c on in
          let is : IsTamTest t = is_tam_test soc plan i t at tam in
          let begun = (active_parts t c on).0 in
          d.1 ∙ said_over t.tam (control_at (planned soc plan) c (run_of t.id)) (control_at (planned soc plan) c (shift_of t.id.«module»)) (control_at (planned soc plan) c (capture_of t.id.«module»)) (captures_before (planned soc plan) t c) d.0
          tam (run_is i c t at ∙ on) (sees is_shift refl i c t at on ∙ ap is_shift d.1) (sees is_capture refl i c t at on ∙ ap is_capture d.1)
          (over_wires is.setup is.si is.so t.patterns (c - t.start) d.0 (ap (λ (ops : List Operation). slice_get ops (c - t.start)) (sym is.operations) ∙ d.2))
          (λ k e. number_is i c k t at tam begun (d.2 ∙ ap Some e))
      | inr self ↦
          let d = does t c on in
          d.1 ∙ ap Some (sym (from_replicate t.patterns (c - t.start) SelfTest d.0 (ap (λ (ops : List Operation). slice_get ops (c - t.start)) (sym (self_ops soc plan i t at self)) ∙ d.2)))
          ∙ said_self t.tam (control_at (planned soc plan) c (run_of t.id)) (control_at (planned soc plan) c (shift_of t.id.«module»)) (control_at (planned soc plan) c (capture_of t.id.«module»)) (captures_before (planned soc plan) t c) self (run_is i c t at ∙ on)
    ]
    | inr off ↦ idle t c off ∙ said_off t.tam (control_at (planned soc plan) c (run_of t.id)) (control_at (planned soc plan) c (shift_of t.id.«module»)) (control_at (planned soc plan) c (capture_of t.id.«module»)) (captures_before (planned soc plan) t c) (run_is i c t at ∙ off)
  ]

  pub one_is : (a b : TestId) (c : ℕ) → a.«module» ≡ b.«module» → control_at (planned soc plan) c (run_of a) ≡ true → control_at (planned soc plan) c (run_of b) ≡ true → a ≡ b
  one_is a b c same first second =
      let x = any_at (λ (u : PlannedTest). same_test u.id a && is_active c u) (planned soc plan) first in
      let y = any_at (λ (u : PlannedTest). same_test u.id b && is_active c u) (planned soc plan) second in
      let p = and_parts (same_test (x.1).id a) (is_active c x.1) x.3 in
      let q = and_parts (same_test (y.1).id b) (is_active c y.1) y.3 in
      let e : (x.1).id ≡ a = same_test_is (x.1).id a p.0 in
      let f : (y.1).id ≡ b = same_test_is (y.1).id b q.0 in
      let modules : (x.1).id.«module» ≡ (y.1).id.«module» = ap (λ (i : TestId). i.«module») e ∙ same ∙ ap (λ (i : TestId). i.«module») (sym f) in
      sym e ∙ ap (λ (t : PlannedTest). t.id) (same_at x.0 y.0 x.1 y.1 x.2 y.2 (together x.0 y.0 c x.1 y.1 x.2 y.2 modules p.1 q.1)) ∙ f

  -- a self test neither shifts nor captures
  over_by : (f : Option Operation → Bool) → f None ≡ false → f (Some SelfTest) ≡ false → (m c : ℕ) → list_any (λ (u : PlannedTest). eqb u.id.«module» m && f (operation_at u c)) (planned soc plan) ≡ true → IsOver (planned soc plan) m c
  over_by f none self m c seen =
      let a = any_at (λ (u : PlannedTest). eqb u.id.«module» m && f (operation_at u c)) (planned soc plan) seen in
      let p = and_parts (eqb (a.1).id.«module» m) (f (operation_at a.1 c)) a.3 in
      record {
        place = a.0;
        test = a.1;
        at = a.2;
        tam = by a.0 a.1 a.2 p.1 (cases_Bool (a.1).tam);
        is = eqb-true (a.1).id.«module» m p.0;
        active = seen_on a.1 c f none p.1;
      }
    where
      by : (i : ℕ) (t : PlannedTest) → IsAt (planned soc plan) i t → f (operation_at t c) ≡ true → (t.tam ≡ true) ⊎ (t.tam ≡ false) → t.tam ≡ true
      by i t at yes' (inl tam) = tam
      by i t at yes' (inr alone) =
          let d = does t c (seen_on t c f none yes') in
          let is : SelfTest ≡ d.0 = from_replicate t.patterns (c - t.start) SelfTest d.0 (ap (λ (ops : List Operation). slice_get ops (c - t.start)) (sym (self_ops soc plan i t at alone)) ∙ d.2) in
          absurd (true≢false (sym yes' ∙ ap f (d.1 ∙ ap Some (sym is)) ∙ self))

  pub over_is : (m c : ℕ) → (control_at (planned soc plan) c (shift_of m) || control_at (planned soc plan) c (capture_of m)) ≡ true → IsOver (planned soc plan) m c
  over_is m c e = elim (or_cases (control_at (planned soc plan) c (shift_of m)) (control_at (planned soc plan) c (capture_of m)) e) [
    | inl shift ↦ over_by is_shift refl refl m c shift
    | inr capture ↦ over_by is_capture refl refl m c capture
  ]

  -- ---- a chip that goes by the controls

  map_same : {X : Type 0} (f g : ℕ → X) → ((j : ℕ) → f j ≡ g j) → (js : List ℕ) → map f js ≡ map g js
  map_same f g same [] = refl
  map_same f g same (j ∷ js) = ap (λ x. x ∷ map f js) (same j) ∙ ap (λ xs. g j ∷ xs) (map_same f g same js)

  each_same : (f g : ℕ → PlannedTest → ℕ → List Bool) (n : ℕ) (tests : List PlannedTest) → ((i k j : ℕ) (t : PlannedTest) → slice_get tests k ≡ Some t → f i t j ≡ g i t j) → each_chain f n tests ≡ each_chain g n tests
  each_same f g n [] same = refl
  each_same f g n (t ∷ tests) same =
      ap (λ x. x ∷ each_chain f (n + 1) tests) (map_same (f n t) (g n t) (λ j. same n 0 j t refl) (range_with_len 0 (length t.chains)))
      ∙ ap (λ xs. map (g n t) (range_with_len 0 (length t.chains)) ∷ xs) (each_same f g (n + 1) tests (λ i k j u at. same i (suc k) j u at))

  pub runs_are : (content : Content) (drive : ℕ → ℕ → Bool) (c : ℕ) → run_by_controls content (planned soc plan) drive c ≡ run_with content (planned soc plan) drive c
  unfolding run_with step
  runs_are content drive zero = refl
  runs_are content drive (suc c) =
      ap (step_by_controls content (planned soc plan) (drive c) c) (runs_are content drive c)
      ∙ each_same (λ i t j. next_bits (content.response t.id) (chain_at t j) (said_at (planned soc plan) t c) (drive c (t.first_wire + j)) (bits_at (run_with content (planned soc plan) drive c) i j))
      (λ i t j. next_bits (content.response t.id) (chain_at t j) (operation_at t c) (drive c (t.first_wire + j)) (bits_at (run_with content (planned soc plan) drive c) i j)) 0 (planned soc plan)
      (λ i k j t at. ap (λ (op : Option Operation). next_bits (content.response t.id) (chain_at t j) op (drive c (t.first_wire + j)) (bits_at (run_with content (planned soc plan) drive c) i j)) (sym (operation_is k c t at)))

  pub run_the_plan : RunThePlan soc plan
  run_the_plan = record {
    operations = operation_is;
    active = run_is;
    one = one_is;
    over = over_is;
    runs = runs_are;
  }
