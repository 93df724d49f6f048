-- The tests of a good plan on its wires.
use Rattle.std.proofs.Common.{◌≡◌, ℕ, zero, suc, ◌-◌, ◌≤◌, Bool, true, false, Some, replicate, refl, ap, sym, subst, ◌∙◌, arith, slice_get}
use Rattle.std.proofs.lemmas.Option.{slice_get_within}
use Rattle.soc_model.specs.declared.Test.{Test}
use Rattle.soc_model.specs.Chips.{ModuleValue, SocValue}
use Rattle.plan_model.specs.Cells.{Cell}
use Rattle.plan_model.specs.Operations.{Shift, Capture, SelfTest}
use Rattle.plan_model.specs.Plans.{PlanValue, LimitsValue, PlannedTest, planned, planned_test, widths, uses}
use Rattle.plan_model.specs.Runs.{Content, operation_at}
use Rattle.plan_model.specs.Right.{IsAt, IsReadAt}
use Rattle.plan_model.specs.Rules.{IsGood, Wrappers}
use Rattle.plan_model.proofs.ChainsInTheRun.{uses_wire}
use Rattle.plan_model.proofs.LoadsAndReads.{begun_at}
use Rattle.plan_model.proofs.PlannedTests.{Origin, origin, wrapped}
use Rattle.plan_model.proofs.TestsInGoodPlans.{apart, on_bus, planned_tam}
use Rattle.plan_model.proofs.GoodPlansRunRight.{every_good_plan_is_right}
use Rattle.vector_lines.specs.Wires.{wires_of, AreOnWires}
use Rattle.common_lemmas.proofs.Lists.{taken_within}

-- only a test over the wires captures
self_captures : (plan : PlanValue) (place : ℕ) (m : ModuleValue) (test : Test) (n k : ℕ) → slice_get (planned_test plan place m test).operations n ≡ Some (Capture k) → (planned_test plan place m test).tam ≡ true
unfolding planned_test
self_captures plan place m test n k e = go test.tam refl where
  no_capture : (p n : ℕ) → slice_get (replicate p SelfTest) n ≡ Some (Capture k) → ⊥
  no_capture zero n e = cc
  no_capture (suc p) zero e = cc
  no_capture (suc p) (suc n) e = no_capture p n e

  go : (b : Bool) → test.tam ≡ b → test.tam ≡ true
  go true is = is
  go false is = let e' = rw is at e in absurd (no_capture test.patterns n e')

capture_tam : (soc : SocValue) (plan : PlanValue) (i c k : ℕ) {t : PlannedTest} → IsAt (planned soc plan) i t → operation_at t c ≡ Some (Capture k) →
    t.tam ≡ true
capture_tam soc plan i c k {t} at e =
    let o = origin soc plan i t at in
    let b = begun_at t c (Capture k) e in
    subst (λ (t : PlannedTest). slice_get t.operations (c - t.start) ≡ Some (Capture k) → t.tam ≡ true) o.is (self_captures plan o.l.place o.l.core o.l.test (c - (planned_test plan o.l.place o.l.core o.l.test).start) k) b.1

module _ (soc : SocValue) (limits : LimitsValue) (plan : PlanValue) (good : IsGood soc limits plan) (i : ℕ) where
  -- a test over the wires has one at least
  planned_some_wire : {t : PlannedTest} (o : Origin soc plan i t) → o.l.test.tam ≡ true → 1 ≤ (planned_test plan o.l.place o.l.core o.l.test).width
  unfolding planned_test
  planned_some_wire o tam =
      let w = wrapped soc limits plan good o.l.place o.n o.l.core o.l.test o.module_at o.test_at tam in
      let fits = ((good Wrappers).0 w.n w.w w.at) in
      let on = rw w.module_is at fits.on_wires in
      omega arith

  some_wire : {t : PlannedTest} → IsAt (planned soc plan) i t → t.tam ≡ true → 1 ≤ t.width
  some_wire {t} at tam =
      let o = origin soc plan i t at in
      let tam' : o.l.test.tam ≡ true = sym (planned_tam plan o.l.place o.l.core o.l.test) ∙ ap (λ (t : PlannedTest). t.tam) o.is ∙ tam in
      subst (λ (t : PlannedTest). 1 ≤ t.width) o.is (planned_some_wire o tam')

  -- a test that is read uses the wire
  read_uses : {k c w : ℕ} {t : PlannedTest} {x : Cell} → Content → IsAt (planned soc plan) i t → IsReadAt t k x c w → uses c w t ≡ true
  read_uses {k} {c} {w} {t} {x} content at read =
      let right = every_good_plan_is_right soc limits plan content good in
      let a = apart soc limits plan good in
      let shift = right.reads.all_shifts i t k x c w at read c (omega (arith, read.cycle)) (omega arith) in
      let b = begun_at t c Shift shift in
      let chain = slice_get_within t.chains read.chain read.cells read.there in
      let fit = a.fit i t at in
      subst (λ w. uses c w t ≡ true) (sym read.wire) (uses_wire t c read.chain (a.tam i read.chain t at chain) b.0 (slice_get_within t.operations (c - t.start) Shift b.1) (omega arith))

pub good_wires : (soc : SocValue) (limits : LimitsValue) (plan : PlanValue) → IsGood soc limits plan → Content → AreOnWires (planned soc plan) (wires_of plan)
good_wires soc limits plan good content =
    let a = apart soc limits plan good in
    record {
      alone = a.alone;
      within = λ i t at tam.
          let b = on_bus soc plan i t at in
          rw (b.first, b.wide) (taken_within (widths plan) t.bus);
      some = λ i t at tam. some_wire soc limits plan good i at tam;
      fit = a.fit;
      captures = λ i c k t at e. capture_tam soc plan i c k at e;
      reads = λ i k c w t x at read. read_uses soc limits plan good i content at read;
    }
