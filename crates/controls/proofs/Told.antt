-- What all live tests tell together is what the controls are.
use Rattle.std.proofs.Common.{◌≡◌, ℕ, zero, suc, ◌+◌, ◌-◌, ◌*◌, ◌≤◌, ◌<◌, ◌⊎◌, ◌^◌, Bool, true, false, cond, ◌&&◌, ◌||◌, max, min, Option, None, Some, List, [], ◌∷◌, ◌++◌, length, get_or, map, take, drop, replicate, eqb, leb, refl, ap, sym, subst, ◌∙◌, arith, inl, inr, add-zero, zero-add, slice_get, slice_range, option_map, filter}
use Rattle.std.specs.List.{list_any}
use Rattle.std.proofs.lemmas.Bool.{and_from, and_right, cases_Bool, cases_eq, eq-eqb, false_from_ne_true, leb-true, ne_eqb}
use Rattle.std.proofs.lemmas.List.{get_or-drop, get_or-map, get_or-take, length-append, length-drop, length-map, length-take, ext_get_or, take_all}
use Rattle.std.proofs.lemmas.Option.{same_Some, slice_get-get_or, slice_get-map, slice_get_within}
use Rattle.soc_model.specs.declared.TestId.{TestId}
use Rattle.soc_model.specs.Chips.{ModuleValue, SocValue, LiveTest, id_of, is_live, live_tests, same_test}
use Rattle.soc_model.specs.Modes.{has_tam, is_tam}
use Rattle.soc_model.specs.SoundChips.{IsSoundChip, AllDiffer}
use Rattle.plan_model.specs.Moments.{phase_ops, ArePhases}
use Rattle.plan_model.specs.Operations.{Operation, SelfTest}
use Rattle.plan_model.specs.Plans.{PlanValue, PlannedTest, chains_of, is_active, operations_of, planned, planned_test}
use Rattle.plan_model.specs.Right.{IsAt}
use Rattle.plan_model.specs.Rules.{IsGoodAlone, bare_limits, live_ids}
use Rattle.plan_model.specs.Runs.{operation_at}
use Rattle.plan_model.specs.declared.moments.Phases.{Phases}
use Rattle.plan_model.proofs.CertificatesAreBounds.{is_same_test, same_test_is}
use Rattle.plan_model.proofs.Lists.{any_from, from_append, from_filter}
use Rattle.plan_model.proofs.OperationCounts.{ops_length}
use Rattle.plan_model.proofs.PlannedTests.{live_at}
use Rattle.plan_model.proofs.ShortTests.{short_planned}
use Rattle.live_tests.proofs.LiveIds.{ids_differ}
use Rattle.controls.specs.declared.Control.{Control}
use Rattle.controls.specs.Controls.{bit_digit, capture_of, control_at, control_row, controls, is_capture, is_shift, run_of, shift_of, tam_numbers}
use Rattle.controls.proofs.Listing.{control_row-length}
use Rattle.controls.specs.declared.placing.ControlledTest.{ControlledTest}
use Rattle.controls.specs.declared.columns.ModuleColumns.{ModuleColumns}
use Rattle.controls.specs.declared.rows.ControlRows.{ControlRows}
use Rattle.controls.specs.Columns.{ArePut, byte_at, is_told, operation_of, own_columns, tells, told_from}
use Rattle.controls.specs.Tests.{AreControlRows, IsFit, controlled_live, phases_of, tam_before}
use Rattle.controls.proofs.Marking.{place-lt}
use Rattle.controls.proofs.Placed.{tam_before-le}
use Rattle.common_lemmas.proofs.Numbers.{block_fits}
use Rattle.common_lemmas.proofs.Lists.{from_map}
use Rattle.controls.specs.declared.Control.TheVariants as control

-- ---- lists

any_map : {X Y : Type 0} (p : Y → Bool) (f : X → Y) (xs : List X) → list_any p (map f xs) ≡ list_any (λ x. p (f x)) xs
any_map p f [] = refl
any_map p f (x ∷ xs) = ap (λ b. p (f x) || b) (any_map p f xs)

passed_at : (p : ModuleValue → Bool) (ms : List ModuleValue) (k : ℕ) {m : ModuleValue} → slice_get ms k ≡ Some m → p m ≡ true →
    slice_get (filter p ms) (length (filter p (take k ms))) ≡ Some m
passed_at p [] k at passes = absurd cc
passed_at p (x ∷ ms) zero {m} at passes =
    let same = same_Some x m at in
    let here : p x ≡ true = ap p same ∙ passes in
    rw here (ap Some same)
passed_at p (x ∷ ms) (suc k) at passes = elim (cases_Bool (p x)) [
  | inl yes' ↦ rw yes' (passed_at p ms k at passes)
  | inr no' ↦ rw no' (passed_at p ms k at passes)
]

module _ (x : ℕ) (xs : List ℕ) where
  differ_tail : AllDiffer (x ∷ xs) → AllDiffer xs
  differ_tail differ p q y at there = let same = differ (suc p) (suc q) y at there in omega (arith, same)

  differ_cons : ((q : ℕ) → slice_get xs q ≡ Some x → ⊥) → AllDiffer xs → AllDiffer (x ∷ xs)
  differ_cons new differ zero zero y at there = refl
  differ_cons new differ zero (suc q) y at there = let same : x ≡ y = cc in absurd (new q (there ∙ ap Some (sym same)))
  differ_cons new differ (suc p) zero y at there = let same : x ≡ y = cc in absurd (new p (at ∙ ap Some (sym same)))
  differ_cons new differ (suc p) (suc q) y at there = ap suc (differ p q y at there)

differ_filter : (f : ModuleValue → ℕ) (p : ModuleValue → Bool) (ms : List ModuleValue) → AllDiffer (map f ms) → AllDiffer (map f (filter p ms))
differ_filter f p [] differ = differ
differ_filter f p (m ∷ ms) differ = elim (cases_Bool (p m)) [
  | inl yes' ↦ rw yes' (differ_cons (f m) (map f (filter p ms)) new (differ_filter f p ms (differ_tail (f m) (map f ms) differ)))
  | inr no' ↦ rw no' (differ_filter f p ms (differ_tail (f m) (map f ms) differ))
]
  where
    new : (q : ℕ) → slice_get (map f (filter p ms)) q ≡ Some (f m) → ⊥
    new q at =
        let a = from_map f (filter p ms) q (f m) at in
        let b = from_filter p ms q a.0 a.1 in
        let there : slice_get (map f ms) b.0 ≡ Some (f m) = slice_get-map f ms b.0 ∙ rw (b.1, a.2) refl in
        let same = differ 0 (suc b.0) (f m) refl there in
        absurd (omega (arith, same))

numbers_differ : {soc : SocValue} → IsSoundChip soc → AllDiffer (tam_numbers soc)
numbers_differ {soc} sound = differ_filter (λ (m : ModuleValue). m.number) has_tam soc.modules sound.modules_differ

-- in a list whose items differ, tests of places and of items agree
numbers_agree : (ns : List ℕ) (y b : ℕ) {m n : ℕ} → AllDiffer ns → slice_get ns y ≡ Some m → slice_get ns b ≡ Some n → eqb y b ≡ eqb n m
numbers_agree ns y b {m} {n} differ at there = elim (cases_eq y b) [
  | inl same ↦ eq-eqb y b same ∙ sym (eq-eqb n m (same_Some n m (sym there ∙ ap (slice_get ns) (sym same) ∙ at)))
  | inr other ↦ ne_eqb y b other ∙ sym (ne_eqb n m (λ e. other (differ y b m at (there ∙ ap Some e))))
]

names_agree : (ids : List TestId) (x k : ℕ) {id name : TestId} →
    ((p q : ℕ) (i : TestId) → slice_get ids p ≡ Some i → slice_get ids q ≡ Some i → p ≡ q) → slice_get ids x ≡ Some id → slice_get ids k ≡ Some name →
    eqb x k ≡ same_test name id
names_agree ids x k {id} {name} differ at there = elim (cases_eq x k) [
  | inl same ↦ eq-eqb x k same ∙ sym (ap (λ (i : TestId). same_test i id) (same_Some name id (sym there ∙ ap (slice_get ids) (sym same) ∙ at)) ∙ is_same_test id)
  | inr other ↦ ne_eqb x k other ∙ sym (false_from_ne_true (same_test name id) (λ e. other (differ x k id at (there ∙ ap Some (same_test_is name id e)))))
]

-- ---- a planned test

abbrev test_of : PlanValue → LiveTest → PlannedTest
test_of plan l = planned_test plan l.place l.core l.test

-- the columns of the module of a live test
abbrev own_of : SocValue → LiveTest → ModuleColumns
own_of soc l = own_columns (length (live_tests soc)) (length (tam_numbers soc)) (tam_before soc l.place)

record PlannedIs (plan : PlanValue) (l : LiveTest) : Type 0 where
  pub id : (test_of plan l).id ≡ id_of l
  pub operations : (test_of plan l).operations ≡ operations_of l.core l.test (chains_of plan l.core l.test)

module _ (plan : PlanValue) where
  planned_is : (l : LiveTest) → PlannedIs plan l
  unfolding planned_test
  planned_is l = record { id = refl; operations = refl }

  planned_there : (soc : SocValue) (i : ℕ) {l : LiveTest} → slice_get (live_tests soc) i ≡ Some l →
      IsAt (planned soc plan) i (test_of plan l)
  unfolding planned
  planned_there soc i {l} at =
      slice_get-map (λ (l : LiveTest). test_of plan l) (live_tests soc) i ∙ ap (option_map (λ (l : LiveTest). test_of plan l)) at

  any_planned : (soc : SocValue) (p : PlannedTest → Bool) →
      list_any p (planned soc plan) ≡ list_any (λ (l : LiveTest). p (test_of plan l)) (live_tests soc)
  unfolding planned
  any_planned soc p = any_map p (λ (l : LiveTest). test_of plan l) (live_tests soc)

  wired : (l : LiveTest) → l.test.tam ≡ true → (test_of plan l).operations ≡ phase_ops (phases_of plan l.core l.test)
  wired l tam = (planned_is l).operations ∙ rw tam refl

  self_ops : (l : LiveTest) → l.test.tam ≡ false → (test_of plan l).operations ≡ replicate l.test.patterns SelfTest
  self_ops l self = (planned_is l).operations ∙ rw self refl

-- a self test neither shifts nor captures
record IsIdle (op : Option Operation) : Type 0 where
  pub shift : is_shift op ≡ false
  pub capture : is_capture op ≡ false

self_idle : (n k : ℕ) → IsIdle (slice_get (replicate n SelfTest) k)
self_idle zero k = record { shift = refl; capture = refl }
self_idle (suc n) zero = record { shift = refl; capture = refl }
self_idle (suc n) (suc k) = self_idle n k

idle_at : (t : PlannedTest) (c n : ℕ) → t.operations ≡ replicate n SelfTest → IsIdle (operation_at t c)
idle_at t c n is = elim (cases_Bool (leb t.start c)) [
  | inl begun ↦ rw (begun, is) (self_idle n (c - t.start))
  | inr early ↦ rw early (record { shift = refl; capture = refl })
]

-- what is kept of a test over the wires does what is planned
same_operation : (soc : SocValue) (plan : PlanValue) (l : LiveTest) (c : ℕ) → l.test.tam ≡ true → operation_of (controlled_live soc plan l) c ≡ operation_at (test_of plan l) c
same_operation soc plan l c tam =
    ap (λ (ops : List Operation). cond (leb (test_of plan l).start c) (slice_get ops (c - (test_of plan l).start)) None) (sym (wired plan l tam))

-- ---- live tests and their modules

module _ (soc : SocValue) (i : ℕ) {l : LiveTest} (at : slice_get (live_tests soc) i ≡ Some l) where
  own_module : l.test.tam ≡ true → slice_get (tam_numbers soc) (tam_before soc l.place) ≡ Some l.core.number
  own_module tam =
      let o = live_at soc.modules 0 i l at in
      let place : o.up ≡ l.place = omega (arith, o.place_is) in
      let there : slice_get soc.modules l.place ≡ Some l.core = ap (slice_get soc.modules) (sym place) ∙ o.module_at in
      let t = from_filter is_live l.core.tests o.n l.test o.test_at in
      let has = any_from is_tam l.core.tests t.0 l.test t.1 (and_from (is_live l.test) l.test.tam t.2 tam) in
      slice_get-map (λ (m : ModuleValue). m.number) (filter has_tam soc.modules) (tam_before soc l.place) ∙ ap (option_map (λ (m : ModuleValue). m.number)) (passed_at has_tam soc.modules l.place there has)

  own_name : slice_get (live_ids soc) i ≡ Some (id_of l)
  own_name = slice_get-map id_of (live_tests soc) i ∙ ap (option_map id_of) at

-- ---- what one test tells of a column

past : (x n : ℕ) → x < n → eqb x n ≡ false
past x n h = ne_eqb x n (λ e. less_self e h)
  where
    less_self : {x n : ℕ} → x ≡ n → x < n → ⊥
    less_self e h = omega arith

later : (x n : ℕ) → n < x → eqb x n ≡ false
later x n h = ne_eqb x n (λ e. less_self e h)
  where
    less_self : {x n : ℕ} → x ≡ n → n < x → ⊥
    less_self e h = omega arith

moved : (a y b : ℕ) → eqb (a + y) (a + b) ≡ eqb y b
moved a y b = elim (cases_eq y b) [
  | inl same ↦ eq-eqb (a + y) (a + b) (ap (λ n. a + n) same) ∙ sym (eq-eqb y b same)
  | inr other ↦ ne_eqb (a + y) (a + b) (λ e. other (same_rest a y b e)) ∙ sym (ne_eqb y b other)
]
  where
    same_rest : (a y b : ℕ) → a + y ≡ a + b → y ≡ b
    same_rest a y b e = omega arith

run_only : {p q : Bool} (a t : Bool) {s u : Bool} (sh ca : Bool) → p ≡ q → s ≡ false → u ≡ false →
    ((p && a) || (t && ((s && sh) || (u && ca)))) ≡ (q && a)
run_only {q} a t sh ca e f g = rw (e, f, g) (alone (q && a) t) where
  alone : (v t : Bool) → (v || (t && false)) ≡ v
  alone true t = refl
  alone false true = refl
  alone false false = refl

module _ {p : Bool} (a : Bool) {t s u : Bool} (sh ca : Bool) {n : Bool} (e : p ≡ false) (f : t ≡ true) where
  shift_only : s ≡ n → u ≡ false → ((p && a) || (t && ((s && sh) || (u && ca)))) ≡ (n && sh)
  shift_only g h = rw (e, f, g, h) (alone (n && sh)) where
    alone : (v : Bool) → (v || false) ≡ v
    alone true = refl
    alone false = refl

  capture_only : s ≡ false → u ≡ n → ((p && a) || (t && ((s && sh) || (u && ca)))) ≡ (n && ca)
  capture_only g h = rw (e, f, g, h) refl

self_only : {p : Bool} (a : Bool) {t : Bool} (v n : Bool) {sh : Bool} → p ≡ false → t ≡ false → sh ≡ false → ((p && a) || (t && v)) ≡ (n && sh)
self_only a v n e f g = rw (e, f, g) (sym (and_right n false refl))

module_is : (plan : PlanValue) (l : LiveTest) (m : ℕ) → eqb (test_of plan l).id.«module» m ≡ eqb l.core.number m
module_is plan l m = ap (λ (id : TestId). eqb id.«module» m) (planned_is plan l).id

module _ {soc : SocValue} (plan : PlanValue) (sound : IsSoundChip soc) (c k x : ℕ) {l : LiveTest} (at : slice_get (live_tests soc) k ≡ Some l) where
  -- its own column
  run_tells : {id : TestId} → slice_get (live_ids soc) x ≡ Some id →
      tells k (own_of soc l) (controlled_live soc plan l) c x ≡ (same_test (test_of plan l).id id && is_active c (test_of plan l))
  run_tells {id} there =
      let within : x < length (live_tests soc) = omega (arith, slice_get_within (live_ids soc) x id there, length-map (live_tests soc) id_of) in
      run_only (is_active c (test_of plan l)) l.test.tam (is_shift (operation_of (controlled_live soc plan l) c)) (is_capture (operation_of (controlled_live soc plan l) c))
      (names_agree (live_ids soc) x k (ids_differ soc sound) there (own_name soc k at)) (past x _ (omega arith)) (past x _ (omega arith))
      ∙ ap (λ (name : TestId). same_test name id && is_active c (test_of plan l)) (sym (planned_is plan l).id)

  -- the columns of Shifts
  shift_tells : (y : ℕ) {m : ℕ} → slice_get (tam_numbers soc) y ≡ Some m → x ≡ length (live_tests soc) + y →
      tells k (own_of soc l) (controlled_live soc plan l) c x ≡ (eqb (test_of plan l).id.«module» m && is_shift (operation_at (test_of plan l) c))
  shift_tells y {m} there is =
      let first = slice_get_within (live_tests soc) k l at in
      let inside = slice_get_within (tam_numbers soc) y m there in
      elim (cases_Bool l.test.tam) [
        | inl tam ↦
            shift_only (is_active c (test_of plan l)) (is_shift (operation_of (controlled_live soc plan l) c)) (is_capture (operation_of (controlled_live soc plan l) c)) (later x k (omega arith)) tam
            (ap (λ n. eqb n (length (live_tests soc) + tam_before soc l.place)) is ∙ moved (length (live_tests soc)) y (tam_before soc l.place)
            ∙ numbers_agree (tam_numbers soc) y (tam_before soc l.place) (numbers_differ sound) there (own_module soc k at tam)) (past x _ (omega arith))
            ∙ ap (λ (op : Option Operation). eqb l.core.number m && is_shift op) (same_operation soc plan l c tam)
            ∙ ap (λ b. b && is_shift (operation_at (test_of plan l) c)) (sym (module_is plan l m))
        | inr self ↦
            self_only (is_active c (test_of plan l)) (is_told (own_of soc l) (controlled_live soc plan l) c x) (eqb (test_of plan l).id.«module» m) (later x k (omega arith)) self
            (idle_at (test_of plan l) c l.test.patterns (self_ops plan l self)).shift
      ]

  -- the columns of Captures
  capture_tells : (y : ℕ) {m : ℕ} → slice_get (tam_numbers soc) y ≡ Some m → x ≡ length (live_tests soc) + length (tam_numbers soc) + y →
      tells k (own_of soc l) (controlled_live soc plan l) c x ≡ (eqb (test_of plan l).id.«module» m && is_capture (operation_at (test_of plan l) c))
  capture_tells y {m} there is =
      let first = slice_get_within (live_tests soc) k l at in
      let inside = slice_get_within (tam_numbers soc) y m there in
      elim (cases_Bool l.test.tam) [
        | inl tam ↦
            let own = slice_get_within (tam_numbers soc) (tam_before soc l.place) l.core.number (own_module soc k at tam) in
            capture_only (is_active c (test_of plan l)) (is_shift (operation_of (controlled_live soc plan l) c)) (is_capture (operation_of (controlled_live soc plan l) c)) (later x k (omega arith)) tam (later x _ (omega arith))
            (ap (λ n. eqb n (length (live_tests soc) + length (tam_numbers soc) + tam_before soc l.place)) is ∙ moved (length (live_tests soc) + length (tam_numbers soc)) y (tam_before soc l.place)
            ∙ numbers_agree (tam_numbers soc) y (tam_before soc l.place) (numbers_differ sound) there (own_module soc k at tam))
            ∙ ap (λ (op : Option Operation). eqb l.core.number m && is_capture op) (same_operation soc plan l c tam)
            ∙ ap (λ b. b && is_capture (operation_at (test_of plan l) c)) (sym (module_is plan l m))
        | inr self ↦
            self_only (is_active c (test_of plan l)) (is_told (own_of soc l) (controlled_live soc plan l) c x) (eqb (test_of plan l).id.«module» m) (later x k (omega arith)) self
            (idle_at (test_of plan l) c l.test.patterns (self_ops plan l self)).capture
      ]

-- ---- what all tell

module _ (soc : SocValue) (plan : PlanValue) (c x : ℕ) where
  told_all : (runs modules i : ℕ) (ls : List LiveTest) (q : LiveTest → Bool) →
      ((j k : ℕ) (l : LiveTest) → j ≡ i + k → slice_get ls k ≡ Some l → tells j (own_columns runs modules (tam_before soc l.place)) (controlled_live soc plan l) c x ≡ q l) →
      told_from runs modules i (map (controlled_live soc plan) ls) c x ≡ list_any q ls
  unfolding told_from
  told_all runs modules i [] q same = refl
  told_all runs modules i (l ∷ ls) q same =
      ap (λ b. b || told_from runs modules (i + 1) (map (controlled_live soc plan) ls) c x) (same i 0 l (omega arith) refl)
      ∙ ap (λ b. q l || b) (told_all runs modules (i + 1) ls q (λ j k l is at. same j (suc k) l (omega (arith, is)) at))

  -- a column is its control
  column_is : IsSoundChip soc → {ctl : Control} → slice_get (controls soc) x ≡ Some ctl →
      told_from (length (live_tests soc)) (length (tam_numbers soc)) 0 (map (controlled_live soc plan) (live_tests soc)) c x ≡ control_at (planned soc plan) c ctl
  unfolding controls
  column_is sound {ctl} at = go (from_append (map run_of (live_ids soc)) (map shift_of (tam_numbers soc) ++ map capture_of (tam_numbers soc)) x ctl at)
    where
      all : (q : LiveTest → Bool) → ((k : ℕ) (l : LiveTest) → slice_get (live_tests soc) k ≡ Some l → tells k (own_of soc l) (controlled_live soc plan l) c x ≡ q l) →
          told_from (length (live_tests soc)) (length (tam_numbers soc)) 0 (map (controlled_live soc plan) (live_tests soc)) c x ≡ list_any q (live_tests soc)
      all q same = told_all (length (live_tests soc)) (length (tam_numbers soc)) 0 (live_tests soc) q (λ j k l is there. subst (λ n. tells n (own_of soc l) (controlled_live soc plan l) c x ≡ q l) (sym (is ∙ zero-add k)) (same k l there))

      names : length (map run_of (live_ids soc)) ≡ length (live_tests soc)
      names = length-map (live_ids soc) run_of ∙ length-map (live_tests soc) id_of

      shifts : length (map shift_of (tam_numbers soc)) ≡ length (tam_numbers soc)
      shifts = length-map (tam_numbers soc) shift_of

      rest : (j : ℕ) → x ≡ length (map run_of (live_ids soc)) + j → (slice_get (map shift_of (tam_numbers soc)) j ≡ Some ctl) ⊎ ((y : ℕ) × (j ≡ length (map shift_of (tam_numbers soc)) + y) × (slice_get
          (map capture_of (tam_numbers soc)) y ≡ Some ctl)) →
          told_from (length (live_tests soc)) (length (tam_numbers soc)) 0 (map (controlled_live soc plan) (live_tests soc)) c x ≡ control_at (planned soc plan) c ctl
      rest j is (inl a) =
          let m = from_map shift_of (tam_numbers soc) j ctl a in
          all (λ (l : LiveTest). eqb (test_of plan l).id.«module» m.0 && is_shift (operation_at (test_of plan l) c))
          (λ k l there. shift_tells plan sound c k x there j m.1 (omega (arith, is, names)))
          ∙ sym (any_planned plan soc (λ (t : PlannedTest). eqb t.id.«module» m.0 && is_shift (operation_at t c)))
          ∙ ap (control_at (planned soc plan) c) m.2
      rest j is (inr a) =
          let m = from_map capture_of (tam_numbers soc) a.0 ctl a.2 in
          all (λ (l : LiveTest). eqb (test_of plan l).id.«module» m.0 && is_capture (operation_at (test_of plan l) c))
          (λ k l there. capture_tells plan sound c k x there a.0 m.1 (omega (arith, is, names, shifts, a.1)))
          ∙ sym (any_planned plan soc (λ (t : PlannedTest). eqb t.id.«module» m.0 && is_capture (operation_at t c)))
          ∙ ap (control_at (planned soc plan) c) m.2

      go : (slice_get (map run_of (live_ids soc)) x ≡ Some ctl) ⊎ ((j : ℕ) × (x ≡ length (map run_of (live_ids soc)) + j) × (slice_get (map shift_of (tam_numbers soc) ++ map capture_of (tam_numbers soc)) j ≡ Some ctl)) →
          told_from (length (live_tests soc)) (length (tam_numbers soc)) 0 (map (controlled_live soc plan) (live_tests soc)) c x ≡ control_at (planned soc plan) c ctl
      go (inl a) =
          let id = from_map run_of (live_ids soc) x ctl a in
          all (λ (l : LiveTest). same_test (test_of plan l).id id.0 && is_active c (test_of plan l)) (λ k l there. run_tells plan sound c k x there id.1)
          ∙ sym (any_planned plan soc (λ (t : PlannedTest). same_test t.id id.0 && is_active c t))
          ∙ ap (control_at (planned soc plan) c) id.2
      go (inr a) = rest a.0 a.1 (from_append (map shift_of (tam_numbers soc)) (map capture_of (tam_numbers soc)) a.0 ctl a.2)

-- ---- the rows that were put

-- the rows have what the tests before a place tell
pub record AreToldTo (rows : ControlRows) (from count place : ℕ) (text : List ℕ) : Type 0 where
  pub bytes : (r x : ℕ) → r < count → x < rows.columns →
      byte_at text rows.columns r x ≡ bit_digit (told_from (length rows.tests.items) rows.modules 0 (take place rows.tests.items) (from + r) x)

pub told_none : (rows : ControlRows) (from count : ℕ) (text : List ℕ) → ((i : ℕ) → i < count * rows.columns → get_or text i 0 ≡ 48) → AreToldTo rows from count 0 text
unfolding told_from
told_none rows from count text zeros = record { bytes = λ r x h within. zeros (r * rows.columns + x) (place-lt r count rows.columns x (count * rows.columns) h within (omega arith)) }

told_more : (runs modules c x i k : ℕ) (ts : List ControlledTest) {t : ControlledTest} → slice_get ts k ≡ Some t →
    told_from runs modules i (take (suc k) ts) c x ≡ (told_from runs modules i (take k ts) c x || tells (i + k) (own_columns runs modules t.before) t c x)
unfolding told_from
told_more runs modules c x i k [] at = absurd cc
told_more runs modules c x i zero (u ∷ ts) {t} at =
    let same = same_Some u t at in
    rw (add-zero i, same) (alone (tells i (own_columns runs modules t.before) t c x))
  where
    alone : (b : Bool) → (b || false) ≡ b
    alone true = refl
    alone false = refl
told_more runs modules c x i (suc k) (u ∷ ts) {t} at =
    ap (λ b. tells i (own_columns runs modules u.before) u c x || b) (told_more runs modules c x (i + 1) k ts at)
    ∙ three (tells i (own_columns runs modules u.before) u c x) (told_from runs modules (i + 1) (take k ts) c x) (tells (i + 1 + k) (own_columns runs modules t.before) t c x)
    ∙ ap (λ n. (tells i (own_columns runs modules u.before) u c x || told_from runs modules (i + 1) (take k ts) c x) || tells n (own_columns runs modules t.before) t c x) (next i k)
  where
    three : (p q r : Bool) → (p || (q || r)) ≡ ((p || q) || r)
    three true q r = refl
    three false q r = refl

    next : (i k : ℕ) → i + 1 + k ≡ i + suc k
    next i k = omega arith

module _ {rows : ControlRows} {from count place : ℕ} where
  -- one test more
  pub test_told : {t : ControlledTest} {old new : List ℕ} → slice_get rows.tests.items place ≡ Some t → AreToldTo rows from count place old →
      ArePut (tells place (own_columns (length rows.tests.items) rows.modules t.before) t) rows.columns from count old new →
      AreToldTo rows from count (place + 1) new
  test_told {t} at are put = record {
    bytes = λ r x h within.
        put.bytes r x h within ∙ ap (λ v. cond (tells place (own_columns (length rows.tests.items) rows.modules t.before) t (from + r) x) 49 v) (are.bytes r x h within)
        ∙ either (told_from (length rows.tests.items) rows.modules 0 (take place rows.tests.items) (from + r) x) (tells place (own_columns (length rows.tests.items) rows.modules t.before) t (from + r) x)
        ∙ ap bit_digit (ap (λ n. told_from (length rows.tests.items) rows.modules 0 (take place rows.tests.items) (from + r) x || tells n (own_columns (length rows.tests.items) rows.modules t.before) t (from + r) x) (sym (zero-add place))
        ∙ sym (told_more (length rows.tests.items) rows.modules (from + r) x 0 place rows.tests.items at)
        ∙ ap (λ n. told_from (length rows.tests.items) rows.modules 0 (take n rows.tests.items) (from + r) x) (next place));
  }
    where
      either : (p q : Bool) → cond q 49 (bit_digit p) ≡ bit_digit (p || q)
      either true true = refl
      either true false = refl
      either false true = refl
      either false false = refl

      next : (k : ℕ) → suc k ≡ k + 1
      next k = omega arith

  -- all of them
  pub row_is : {soc : SocValue} {plan : PlanValue} (r : ℕ) {text : List ℕ} → AreControlRows soc plan rows → length rows.tests.items ≤ place →
      count * length (controls soc) ≤ length text → r < count → AreToldTo rows from count place text →
      slice_range text (r * length (controls soc)) (r * length (controls soc) + length (controls soc)) ≡ control_row soc plan (from + r)
  unfolding control_row
  row_is {soc} {plan} r {text} are past room h told =
      ext_get_or 0 (slice_range text (r * columns) (r * columns + columns)) (control_row soc plan (from + r)) (long ∙ sym (control_row-length soc plan (from + r))) (λ x within. byte x (omega (arith, within, long)))
    where
      columns : ℕ
      columns = length (controls soc)

      all : take place rows.tests.items ≡ map (controlled_live soc plan) (live_tests soc)
      all = take_all place rows.tests.items past ∙ are.tests

      many : length rows.tests.items ≡ length (live_tests soc)
      many = ap length are.tests ∙ length-map (live_tests soc) (controlled_live soc plan)

      here : r * columns + columns ≤ length text
      here = omega (arith, block_fits (r + 1) count columns (length text) (omega arith) room)

      long : length (slice_range text (r * columns) (r * columns + columns)) ≡ columns
      long = omega (arith, length-take (r * columns + columns - r * columns) (drop (r * columns) text), length-drop (r * columns) text, here)

      first : Control
      first = control.Shift 0

      byte : (x : ℕ) → x < columns → get_or (slice_range text (r * columns) (r * columns + columns)) x 0 ≡ get_or (control_row soc plan (from + r)) x 0
      byte x within =
          let shown : byte_at text columns r x ≡ bit_digit (told_from (length rows.tests.items) rows.modules 0 (take place rows.tests.items) (from + r) x) =
          ap (λ n. byte_at text n r x) (sym are.columns) ∙ told.bytes r x h (omega (arith, within, are.columns)) in
          let ctl : Control = get_or (controls soc) x first in
          get_or-take (r * columns + columns - r * columns) (drop (r * columns) text) x 0 (omega arith) ∙ get_or-drop (r * columns) text x 0 ∙ shown
          ∙ ap bit_digit (ap (λ (ts : List ControlledTest). told_from (length rows.tests.items) rows.modules 0 ts (from + r) x) all
          ∙ ap (λ n. told_from n rows.modules 0 (map (controlled_live soc plan) (live_tests soc)) (from + r) x) many
          ∙ ap (λ n. told_from (length (live_tests soc)) n 0 (map (controlled_live soc plan) (live_tests soc)) (from + r) x) are.modules
          ∙ column_is soc plan (from + r) x are.sound (slice_get-get_or (controls soc) x first within))
          ∙ sym (get_or-map (λ (y : Control). bit_digit (control_at (planned soc plan) (from + r) y)) (controls soc) x first 0 within)

-- ---- the columns of a test are there, and what is kept of it fits

pub record IsOwn (rows : ControlRows) (place : ℕ) (t : ControlledTest) : Type 0 where
  pub fit : t.tam ≡ true → IsFit t
  pub column : place < rows.columns
  pub shift : t.tam ≡ true → length rows.tests.items + t.before < rows.columns
  pub capture : t.tam ≡ true → length rows.tests.items + rows.modules + t.before < rows.columns
  pub small : length rows.tests.items + rows.modules + t.before ≤ rows.columns

long_ops : (setup si so p n : ℕ) → 1 ≤ p → setup + (1 + max si so) * p + min si so ≤ n → (p ≤ n) × (setup + (1 + max si so) ≤ n)
long_ops setup si so zero n some h = absurd (omega arith)
long_ops setup si so (suc p) n some h = (omega arith, omega arith)

phases_fit : (f : Phases) {ops : List Operation} → 1 ≤ f.patterns → ops ≡ phase_ops f → length ops ≤ 10 ^ 18 → ArePhases f
phases_fit f {ops} some are short =
    let long = ops_length f.setup f.si f.so f.patterns some in
    let same : length ops ≡ length (phase_ops f) = ap length are in
    let parts = long_ops f.setup f.si f.so f.patterns (10 ^ 18) some (omega arith) in
    record { some = some; few = parts.0; fit = let wide = parts.1 in omega arith }

module _ (plan : PlanValue) (l : LiveTest) (tam : l.test.tam ≡ true) where
  patterns_are : (phases_of plan l.core l.test).patterns ≡ l.test.patterns
  patterns_are = rw tam refl

  live_fit : {soc : SocValue} → IsSoundChip soc → IsGoodAlone soc plan → (i : ℕ) → slice_get (live_tests soc) i ≡ Some l →
      IsFit (controlled_live soc plan l)
  live_fit {soc} sound good i at =
      let o = live_at soc.modules 0 i l at in
      let t = from_filter is_live l.core.tests o.n l.test o.test_at in
      let some = leb-true 1 l.test.patterns t.2 in
      let short = short_planned soc (bare_limits plan) plan i (test_of plan l) sound.size good (planned_there plan soc i at) in
      record {
        phases = phases_fit (phases_of plan l.core l.test) (omega (arith, some, patterns_are)) (wired plan l tam) short;
        ends = ap (λ (ops : List Operation). (test_of plan l).start + length ops) (wired plan l tam);
      }

columns_are : (soc : SocValue) → length (controls soc) ≡ length (live_tests soc) + (length (tam_numbers soc) + length (tam_numbers soc))
unfolding controls
columns_are soc =
    omega (
      arith,
      length-append (map run_of (live_ids soc)) (map shift_of (tam_numbers soc) ++ map capture_of (tam_numbers soc)),
      length-append (map shift_of (tam_numbers soc)) (map capture_of (tam_numbers soc)),
      length-map (live_ids soc) run_of,
      length-map (live_tests soc) id_of,
      length-map (tam_numbers soc) shift_of,
      length-map (tam_numbers soc) capture_of,
    )

pub own_is : {soc : SocValue} {plan : PlanValue} {rows : ControlRows} (place : ℕ) {t : ControlledTest} → AreControlRows soc plan rows →
    slice_get rows.tests.items place ≡ Some t → IsOwn rows place t
own_is {soc} {plan} {rows} place {t} are at = record {
  fit = λ tam. subst IsFit is (live_fit plan l.0 (own_tam tam) are.sound are.good place l.1);
  column = omega (arith, place_within, many, columns, are.columns);
  shift = λ tam. let less = before_within tam in omega (arith, less, many, columns, are.columns, are.modules);
  capture = λ tam. let less = before_within tam in omega (arith, less, many, columns, are.columns, are.modules);
  small = omega (arith, before_le, many, columns, are.columns, are.modules);
}
  where
    l : (l : LiveTest) × (slice_get (live_tests soc) place ≡ Some l) × (controlled_live soc plan l ≡ t)
    l = from_map (controlled_live soc plan) (live_tests soc) place t (ap (λ (ts : List ControlledTest). slice_get ts place) (sym are.tests) ∙ at)

    is : controlled_live soc plan l.0 ≡ t
    is = l.2

    own_tam : t.tam ≡ true → (l.0).test.tam ≡ true
    own_tam tam = ap (λ (t : ControlledTest). t.tam) is ∙ tam

    many : length rows.tests.items ≡ length (live_tests soc)
    many = ap length are.tests ∙ length-map (live_tests soc) (controlled_live soc plan)

    columns : length (controls soc) ≡ length (live_tests soc) + (length (tam_numbers soc) + length (tam_numbers soc))
    columns = columns_are soc

    place_within : place < length (live_tests soc)
    place_within = slice_get_within (live_tests soc) place l.0 l.1

    before_is : tam_before soc (l.0).place ≡ t.before
    before_is = ap (λ (t : ControlledTest). t.before) is

    before_within : t.tam ≡ true → t.before < length (tam_numbers soc)
    before_within tam = omega (arith, before_is, slice_get_within (tam_numbers soc) (tam_before soc (l.0).place) (l.0).core.number (own_module soc place l.1 (own_tam tam)))

    before_le : t.before ≤ length (tam_numbers soc)
    before_le = omega (arith, before_is, tam_before-le soc (l.0).place, length-map (filter has_tam soc.modules) (λ (m : ModuleValue). m.number))
