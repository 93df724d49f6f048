-- In a good plan each test takes at least its packed time on the wires of its bus.
use Rattle.std.proofs.Common.{◌≡◌, ℕ, ◌≤◌, true, false, Some, length, refl, ap, ◌∙◌, sym}
use Rattle.std.specs.Prelude.{slice_get, slice_index}
use Rattle.std.proofs.lemmas.List.{length-replicate}
use Rattle.soc_model.specs.declared.Test.{Test}
use Rattle.soc_model.specs.Chips.{ModuleValue, SocValue, LiveTest, live_tests}
use Rattle.plan_model.specs.Cells.{IsProper, chain_cells}
use Rattle.plan_model.specs.Operations.{SelfTest}
use Rattle.plan_model.specs.Plans.{WrapperValue, PlanValue, LimitsValue, PlannedTest, planned, planned_test, chains_of, operations_of, widths, bus_place}
use Rattle.plan_model.specs.Right.{IsAt}
use Rattle.plan_model.specs.Rules.{IsGood, Wrappers, Proper}
use Rattle.plan_model.proofs.PlannedTests.{Origin, origin, Wrapped, wrapped}
use Rattle.plan_model.proofs.ShortTests.{live_patterns}
use Rattle.proof_facts.specs.Packed.{packed_time}
use Rattle.proof_facts.proofs.LeastTimes.{packed_over_wires}

of_wrapper : (plan : PlanValue) (m : ModuleValue) (test : Test) (w : ℕ) (v : WrapperValue) → 1 ≤ test.patterns → test.tam ≡ true → v.scan ≡ test.scan → chains_of plan m test ≡ chain_cells m test.scan v.chains → IsProper m v.scan v.chains →
    1 ≤ length v.chains → length v.chains ≤ w → packed_time m test w ≤ length (operations_of m test (chains_of plan m test))
of_wrapper plan m test w v live tam mode are proper some few =
    let proper' = rw mode at proper in
    rw are (packed_over_wires m test v.chains w tam live some few proper')

-- the wires of its bus, and what it does
width_is : (plan : PlanValue) (place : ℕ) (m : ModuleValue) (test : Test) → (planned_test plan place m test).width ≡ slice_index (widths plan) (bus_place m.number 0 plan.buses)
unfolding planned_test
width_is plan place m test = refl

operations_are : (plan : PlanValue) (place : ℕ) (m : ModuleValue) (test : Test) → (planned_test plan place m test).operations ≡ operations_of m test (chains_of plan m test)
unfolding planned_test
operations_are plan place m test = refl

of_origin : (soc : SocValue) (limits : LimitsValue) (plan : PlanValue) → IsGood soc limits plan → (i : ℕ) (t : PlannedTest) (o : Origin soc plan i t) → o.l.test.tam ≡ true → packed_time o.l.core o.l.test t.width ≤ length t.operations
of_origin soc limits plan good i t o tam =
    let v : Wrapped plan o.l.core o.l.test = wrapped soc limits plan good o.l.place o.n o.l.core o.l.test o.module_at o.test_at tam in
    let fits = (good Wrappers).0 v.n v.w v.at in
    let wide : t.width ≡ slice_index (widths plan) (bus_place o.l.core.number 0 plan.buses) = ap (λ (t : PlannedTest). t.width) (sym o.is) ∙ width_is plan o.l.place o.l.core o.l.test in
    let does : t.operations ≡ operations_of o.l.core o.l.test (chains_of plan o.l.core o.l.test) = ap (λ (t : PlannedTest). t.operations) (sym o.is) ∙ operations_are plan o.l.place o.l.core o.l.test in
    let few : length (v.w).chains ≤ slice_index (widths plan) (bus_place o.l.core.number 0 plan.buses) = rw v.module_is at fits.on_wires in
    rw (wide, does) (of_wrapper plan o.l.core o.l.test (slice_index (widths plan) (bus_place o.l.core.number 0 plan.buses)) v.w (live_patterns soc i o.l o.at) tam v.scan_is v.chains_are (good Proper v.n v.w v.at o.l.place o.l.core o.module_at (sym v.module_is)) fits.some_chain few)

same_live : (soc : SocValue) (i : ℕ) (l l' : LiveTest) → slice_get (live_tests soc) i ≡ Some l → slice_get (live_tests soc) i ≡ Some l' → l ≡ l'
same_live soc i l l' at at' =
    let same : Some l ≡ Some l' = sym at ∙ at' in
    cc

pub planned_packed : (soc : SocValue) (limits : LimitsValue) (plan : PlanValue) (i : ℕ) (l : LiveTest) (t : PlannedTest) → IsGood soc limits plan → slice_get (live_tests soc) i ≡ Some l → IsAt (planned soc plan) i t → l.test.tam ≡ true → packed_time l.core l.test t.width ≤ length t.operations
planned_packed soc limits plan i l t good at there tam =
    let o : Origin soc plan i t = origin soc plan i t there in
    let same : l ≡ o.l = same_live soc i l o.l at o.at in
    let tam' : o.l.test.tam ≡ true = rw same at tam in
    rw same (of_origin soc limits plan good i t o tam')

self_length : (plan : PlanValue) (m : ModuleValue) (test : Test) → test.tam ≡ false → length (operations_of m test (chains_of plan m test)) ≡ test.patterns
self_length plan m test self = rw self (length-replicate test.patterns SelfTest)

pub planned_self : (soc : SocValue) (plan : PlanValue) (i : ℕ) (l : LiveTest) (t : PlannedTest) → slice_get (live_tests soc) i ≡ Some l → IsAt (planned soc plan) i t → l.test.tam ≡ false → length t.operations ≡ l.test.patterns
planned_self soc plan i l t at there self =
    let o : Origin soc plan i t = origin soc plan i t there in
    let same : l ≡ o.l = same_live soc i l o.l at o.at in
    let self' : o.l.test.tam ≡ false = rw same at self in
    let does : t.operations ≡ operations_of o.l.core o.l.test (chains_of plan o.l.core o.l.test) = ap (λ (t : PlannedTest). t.operations) (sym o.is) ∙ operations_are plan o.l.place o.l.core o.l.test in
    ap length does ∙ self_length plan o.l.core o.l.test self' ∙ ap (λ (l : LiveTest). l.test.patterns) (sym same)
