-- In a good plan the tests stand apart, and each TAM test does the operations of its patterns.
use Rattle.std.proofs.Common.{◌≡◌, ℕ, ◌+◌, ◌≤◌, ◌<◌, true, false, leb, ltb, [], length, map, take, refl, ap, ◌∙◌, sym, subst, arith, inl, inr, ◌⊎◌}
use Rattle.std.specs.Prelude.{slice_index, ◌&&◌}
use Rattle.std.specs.List.{sum, flat_map}
use Rattle.std.specs.List.Sorted.{IsPermutation}
use Rattle.std.proofs.lemmas.Bool.{cases_Bool, and_parts, leb-true, ltb-true, cases_order}
use Rattle.soc_model.specs.declared.Test.{Test}
use Rattle.soc_model.specs.Chips.{ModuleValue, SocValue}
use Rattle.plan_model.specs.Cells.{cells_of, chain_cells, in_length, out_length, scan_lengths, IsProper}
use Rattle.plan_model.specs.Plans.{WrapperValue, PlanValue, LimitsValue, PlannedTest, planned, planned_test, chains_of, of_first, wraps, greatest, widths, bus_place, uses, is_active, IsActive}
use Rattle.plan_model.specs.Right.{IsAt, AllStand}
use Rattle.plan_model.specs.Rules.{IsGood, Wrappers, Proper, Wires, Clash, ShareBus}
use Rattle.plan_model.proofs.CellOrder.{dealt_reads_end, dealt_loads_front, dealt_reads_back, length-dealt}
use Rattle.plan_model.proofs.LoadsAndReads.{IsTamTest}
use Rattle.plan_model.proofs.ChainsInTheRun.{AreApart}
use Rattle.plan_model.proofs.SumsOverCycles.{active_is}
use Rattle.plan_model.proofs.PlannedTests.{Origin, origin, Wrapped, wrapped, same_bus}
use Rattle.plan_model.proofs.Greatest.{le-greatest}

-- what the tests on the wires are, as they are planned
pub planned_is_tam : (plan : PlanValue) (place : ℕ) (m : ModuleValue) (test : Test) → test.tam ≡ true → IsTamTest (planned_test plan place m test)
unfolding planned_test
planned_is_tam plan place m test tam = record {
  setup = m.setup;
  si = greatest (map in_length (chains_of plan m test));
  so = greatest (map out_length (chains_of plan m test));
  operations = rw tam refl;
  in_fits = λ j. le-greatest in_length [] refl (chains_of plan m test) j;
  out_fits = λ j. le-greatest out_length [] refl (chains_of plan m test) j;
  ends = λ j. rw tam (dealt_reads_end (scan_lengths m test.scan) 0 0 (of_first (wraps m.number test.scan) (λ w. w.chains) [] plan.wrappers) j);
  front = λ j. rw tam (dealt_loads_front (scan_lengths m test.scan) 0 0 (of_first (wraps m.number test.scan) (λ w. w.chains) [] plan.wrappers) j);
  back = λ j. rw tam (dealt_reads_back (scan_lengths m test.scan) 0 0 (of_first (wraps m.number test.scan) (λ w. w.chains) [] plan.wrappers) j);
}

pub planned_tam : (plan : PlanValue) (place : ℕ) (m : ModuleValue) (test : Test) → (planned_test plan place m test).tam ≡ test.tam
unfolding planned_test
planned_tam plan place m test = refl

pub is_tam_test : (soc : SocValue) (plan : PlanValue) (i : ℕ) (t : PlannedTest) → IsAt (planned soc plan) i t → t.tam ≡ true → IsTamTest t
is_tam_test soc plan i t at tam =
    let o : Origin soc plan i t = origin soc plan i t at in
    subst IsTamTest o.is (planned_is_tam plan o.l.place o.l.core o.l.test (sym (planned_tam plan o.l.place o.l.core o.l.test) ∙ ap (λ (t : PlannedTest). t.tam) o.is ∙ tam))

-- chains only where the test is one on the wires
planned_chains_tam : (plan : PlanValue) (place : ℕ) (m : ModuleValue) (test : Test) (j : ℕ) → j < length (planned_test plan place m test).chains → (planned_test plan place m test).tam ≡ true
unfolding planned_test
planned_chains_tam plan place m test j h = go (cases_Bool test.tam) where
  go : (test.tam ≡ true) ⊎ (test.tam ≡ false) → test.tam ≡ true
  go (inl yes') = yes'
  go (inr no') = let none : length (chains_of plan m test) ≡ 0 = rw no' refl in absurd (omega arith)

fit_of : (plan : PlanValue) (m : ModuleValue) (test : Test) (w : WrapperValue) → w.«module» ≡ m.number → chains_of plan m test ≡ chain_cells m test.scan w.chains → length w.chains ≤ slice_index (widths plan) (bus_place w.«module» 0 plan.buses) →
    length (chains_of plan m test) ≤ slice_index (widths plan) (bus_place m.number 0 plan.buses)
fit_of plan m test w same are fits =
    let fits' = rw same at fits in
    let long : length (chains_of plan m test) ≡ length w.chains = ap length are ∙ length-dealt (scan_lengths m test.scan) 0 0 w.chains in
    rw long fits'

-- as many wires as chains
pub planned_fit : (soc : SocValue) (limits : LimitsValue) (plan : PlanValue) (good : IsGood soc limits plan) (i : ℕ) (t : PlannedTest) → (o : Origin soc plan i t) → length (planned_test plan o.l.place o.l.core o.l.test).chains ≤ (planned_test plan o.l.place o.l.core o.l.test).width
unfolding planned_test
planned_fit soc limits plan good i t o = go (cases_Bool o.l.test.tam) where
  go : (o.l.test.tam ≡ true) ⊎ (o.l.test.tam ≡ false) → length (chains_of plan o.l.core o.l.test) ≤ slice_index (widths plan) (bus_place o.l.core.number 0 plan.buses)
  go (inr no') = let none : length (chains_of plan o.l.core o.l.test) ≡ 0 = rw no' refl in omega arith
  go (inl yes') =
      let w : Wrapped plan o.l.core o.l.test = wrapped soc limits plan good o.l.place o.n o.l.core o.l.test o.module_at o.test_at yes' in
      fit_of plan o.l.core o.l.test w.w w.module_is w.chains_are ((good Wrappers).0 w.n w.w w.at).on_wires

-- the wires of a test are those of its bus
pub record OnBus (plan : PlanValue) (t : PlannedTest) : Type 0 where
  pub first : t.first_wire ≡ sum (take t.bus (widths plan))
  pub wide : t.width ≡ slice_index (widths plan) t.bus

planned_on_bus : (plan : PlanValue) (place : ℕ) (m : ModuleValue) (test : Test) → OnBus plan (planned_test plan place m test)
unfolding planned_test
planned_on_bus plan place m test = record { first = refl; wide = refl }

pub on_bus : (soc : SocValue) (plan : PlanValue) (i : ℕ) (t : PlannedTest) → IsAt (planned soc plan) i t → OnBus plan t
on_bus soc plan i t at =
    let o : Origin soc plan i t = origin soc plan i t at in
    subst (OnBus plan) o.is (planned_on_bus plan o.l.place o.l.core o.l.test)

-- what the use of a wire means
pub record Uses (c x : ℕ) (t : PlannedTest) : Type 0 where
  pub tam : t.tam ≡ true
  pub active : IsActive t c
  pub low : t.first_wire ≤ x
  pub high : x < t.first_wire + t.width

pub uses_is : (c x : ℕ) (t : PlannedTest) → uses c x t ≡ true → Uses c x t
uses_is c x t e =
    let a = and_parts t.tam (is_active c t && (leb t.first_wire x && ltb x (t.first_wire + t.width))) e in
    let b = and_parts (is_active c t) (leb t.first_wire x && ltb x (t.first_wire + t.width)) a.1 in
    let d = and_parts (leb t.first_wire x) (ltb x (t.first_wire + t.width)) b.1 in
    record { tam = a.0; active = active_is c t b.0; low = leb-true t.first_wire x d.0; high = ltb-true x (t.first_wire + t.width) d.1 }

bus_is : (soc : SocValue) (plan : PlanValue) (c x i i' : ℕ) (t t' : PlannedTest) → OnBus plan t → OnBus plan t' → Uses c x t → Uses c x t' → t.bus ≡ t'.bus
bus_is soc plan c x i i' t t' b b' u u' =
    same_bus (widths plan) t.bus t'.bus x (rw (← b.first) u.low) (rw (← b.first, ← b.wide) u.high) (rw (← b'.first) u'.low) (rw (← b'.first, ← b'.wide) u'.high)

clash_of : (soc : SocValue) (plan : PlanValue) (c x i i' : ℕ) (t t' : PlannedTest) → IsAt (planned soc plan) i t → IsAt (planned soc plan) i' t' → i < i' → Uses c x t → Uses c x t' → t.bus ≡ t'.bus → Clash ShareBus (planned soc plan) i i' c t t'
clash_of soc plan c x i i' t t' at at' order u u' same = record {
  first = at;
  second = at';
  order = order;
  related = (u.tam, u'.tam, same);
  meet = (u.active, u'.active);
}

pub apart : (soc : SocValue) (limits : LimitsValue) (plan : PlanValue) → IsGood soc limits plan → AreApart (planned soc plan)
apart soc limits plan good = record {
  tam = λ i j t at h.
      let o : Origin soc plan i t = origin soc plan i t at in
      rw o.is at (planned_chains_tam plan o.l.place o.l.core o.l.test j (rw (← o.is) at h));
  fit = λ i t at.
      let o : Origin soc plan i t = origin soc plan i t at in
      rw o.is at (planned_fit soc limits plan good i t o);
  alone = λ c x i i' t t' at at' use' use''.
      let u : Uses c x t = uses_is c x t use' in
      let u' : Uses c x t' = uses_is c x t' use'' in
      let same : t.bus ≡ t'.bus = bus_is soc plan c x i i' t t' (on_bus soc plan i t at) (on_bus soc plan i' t' at') u u' in
      elim (cases_order i' i) [
        | inl here ↦ here
        | inr other ↦ elim other [
          | inl less ↦ absurd (good Wires i' i c t' t (clash_of soc plan c x i' i t' t at' at less u' u (sym same)))
          | inr more ↦ absurd (good Wires i i' c t t' (clash_of soc plan c x i i' t t' at at' more u u' same))
        ]
      ];
}

-- ---- each cell of the mode stands in a chain

proper_of : (plan : PlanValue) (m : ModuleValue) (test : Test) (w : WrapperValue) → w.scan ≡ test.scan → chains_of plan m test ≡ chain_cells m test.scan w.chains → IsProper m w.scan w.chains → IsPermutation (cells_of m test.scan) (flat_map (λ cells. cells) (chains_of plan m test))
proper_of plan m test w mode are proper =
    let cells = rw mode at proper.cells in
    rw are cells

planned_stand : (plan : PlanValue) (place : ℕ) (m : ModuleValue) (test : Test) → IsPermutation (cells_of m test.scan) (flat_map (λ cells. cells) (chains_of plan m test)) → AllStand (planned_test plan place m test)
unfolding planned_test
planned_stand plan place m test h = h

pub all_stand : (soc : SocValue) (limits : LimitsValue) (plan : PlanValue) → IsGood soc limits plan → (i : ℕ) (t : PlannedTest) → IsAt (planned soc plan) i t → t.tam ≡ true → AllStand t
all_stand soc limits plan good i t at tam =
    let o : Origin soc plan i t = origin soc plan i t at in
    let tam' : o.l.test.tam ≡ true = sym (planned_tam plan o.l.place o.l.core o.l.test) ∙ ap (λ (t : PlannedTest). t.tam) o.is ∙ tam in
    let w : Wrapped plan o.l.core o.l.test = wrapped soc limits plan good o.l.place o.n o.l.core o.l.test o.module_at o.test_at tam' in
    subst AllStand o.is (planned_stand plan o.l.place o.l.core o.l.test (proper_of plan o.l.core o.l.test w.w w.scan_is w.chains_are (good Proper w.n w.w w.at o.l.place o.l.core o.module_at (sym w.module_is))))
