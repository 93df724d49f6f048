-- From pairs of placed tests to pairs of the tests that a plan places.
use Rattle.std.proofs.Common.{◌≡◌, ℕ, ◌≤◌, ◌<◌, Bool, true, false, true≢false, Some, None, List, length, map, refl, ap, ◌∙◌, sym, arith, inl, inr, ◌⊎◌, eq-eqb, slice_get, slice_index}
use Rattle.std.proofs.lemmas.Bool.{cases_lt, cases_order, eqb-true}
use Rattle.std.proofs.lemmas.Option.{slice_get_within, get_or_from_slice_get}
use Rattle.soc_model.specs.Chips.{SocValue}
use Rattle.plan_model.specs.Plans.{PlanValue, LimitsValue, PlannedTest, planned}
use Rattle.plan_model.specs.Right.{IsAt}
use Rattle.plan_model.specs.Rules.{ShareBus, ShareModule, AreParentAndChild, NoClash, Keeps, Clash as PlannedClash}
use Rattle.plan_model.specs.Faults.{IsFirstClash, Shows, rank_of, fault_rank}
use Rattle.plan_checker.specs.FaultValues.{fault_value}
use Rattle.plan_model.proofs.PlannedTests.{Origin, origin}
use Rattle.plan_model.proofs.GoodPlansRunRight.{planned_place}
use Rattle.live_tests.specs.declared.placed.PlacedTest.{PlacedTest}
use Rattle.plan_checker.specs.declared.clashes.ClashPlace.{ClashPlace}
use Rattle.plan_checker.specs.declared.clashes.Apart.{Apart}
use Rattle.live_tests.specs.Placed.{bus_over, placed_of, placed_tests}
use Rattle.live_tests.specs.Parents.{HasParentAt, AreParents}
use Rattle.plan_checker.specs.Clashes.{keeps_apart, same_slot, Clash, IsBefore, IsLeast, IsBest, clash_fault, rule_for}
use Rattle.common_lemmas.proofs.Lists.{map_at, from_map}
use Rattle.plan_checker.specs.declared.clashes.Apart.TheVariants as apart

-- what the code asks of two placed tests is what the rule asks of the two tests
pub record Agrees (r : PlacedTest → PlacedTest → Bool) (R : PlannedTest → PlannedTest → Type 0) (tests : List PlannedTest) : Type 0 where
  pub to : (i j : ℕ) (t u : PlannedTest) → IsAt tests i t → IsAt tests j u → R t u → r (placed_of t) (placed_of u) ≡ true
  pub from : (i j : ℕ) (t u : PlannedTest) → IsAt tests i t → IsAt tests j u → r (placed_of t) (placed_of u) ≡ true → R t u

clash_down : (r : PlacedTest → PlacedTest → Bool) (R : PlannedTest → PlannedTest → Type 0) (tests : List PlannedTest) → Agrees r R tests → (i j c : ℕ) (t u : PlannedTest) → PlannedClash R tests i j c t u → Clash r (map placed_of tests) i j c
clash_down r R tests agrees i j c t u k = record {
  a = placed_of t;
  b = placed_of u;
  at = map_at placed_of tests i t k.first;
  at' = map_at placed_of tests j u k.second;
  order = k.order;
  both = record { related = agrees.to i j t u k.first k.second k.related; begun = k.meet.0.0; begun' = k.meet.1.0; active = k.meet.0.1; active' = k.meet.1.1 };
}

pub record Up (R : PlannedTest → PlannedTest → Type 0) (tests : List PlannedTest) (i j c : ℕ) (a b : PlacedTest) : Type 0 where
  pub t : PlannedTest
  pub u : PlannedTest
  pub a_is : placed_of t ≡ a
  pub b_is : placed_of u ≡ b
  pub clash : PlannedClash R tests i j c t u

clash_up : (r : PlacedTest → PlacedTest → Bool) (R : PlannedTest → PlannedTest → Type 0) (tests : List PlannedTest) → Agrees r R tests → (i j c : ℕ) (k : Clash r (map placed_of tests) i j c) → Up R tests i j c k.a k.b
clash_up r R tests agrees i j c k =
    let t = from_map placed_of tests i k.a k.at in
    let u = from_map placed_of tests j k.b k.at' in
    let both = rw (← t.2, ← u.2) at k.both in
    record {
      t = t.0;
      u = u.0;
      a_is = t.2;
      b_is = u.2;
      clash = record { first = t.1; second = u.1; order = k.order; related = agrees.from i j t.0 u.0 t.1 u.1 both.related; meet = ((both.begun, both.active), (both.begun', both.active')) };
    }

within_placed : (r : PlacedTest → PlacedTest → Bool) (placed : List PlacedTest) (i j c : ℕ) → Clash r placed i j c → IsBefore i j (length placed) 0
within_placed r placed i j c k = inl (slice_get_within placed i k.a k.at)

pub none_clash : (r : PlacedTest → PlacedTest → Bool) (R : PlannedTest → PlannedTest → Type 0) (tests : List PlannedTest) → Agrees r R tests → IsBest r (map placed_of tests) (length (map placed_of tests)) 0 None → NoClash R tests
none_clash r R tests agrees best i j c t u k =
    let d : Clash r (map placed_of tests) i j c = clash_down r R tests agrees i j c t u k in
    best i j c (within_placed r (map placed_of tests) i j c d) d

-- not before a pair, so at it or behind it
not_before : (i j x y : ℕ) → (IsBefore x y i j → ⊥) → (i < x) ⊎ ((i ≡ x) × (j ≤ y))
not_before i j x y no' = elim (cases_order i x) [
  | inl same ↦ elim (cases_lt y j) [ inl less ↦ absurd (no' (inr (sym same, less))) | inr more ↦ inr (same, more) ]
  | inr other ↦ elim other [ inl less ↦ inl less | inr more ↦ absurd (no' (inl more)) ]
]

pub least_clash : (r : PlacedTest → PlacedTest → Bool) (R : PlannedTest → PlannedTest → Type 0) (tests : List PlannedTest) → Agrees r R tests → (f : ClashPlace) → IsLeast r (map placed_of tests) (length (map placed_of tests)) 0 f →
    (x y : PlacedTest) → slice_get (map placed_of tests) f.first ≡ Some x → slice_get (map placed_of tests) f.second ≡ Some y → IsFirstClash R tests x.id y.id f.cycle
least_clash r R tests agrees f best x y at at' =
    let up : Up R tests f.first f.second f.cycle best.clash.a best.clash.b = clash_up r R tests agrees f.first f.second f.cycle best.clash in
    let here : Some best.clash.a ≡ Some x = sym best.clash.at ∙ at in
    let there : Some best.clash.b ≡ Some y = sym best.clash.at' ∙ at' in
    record {
      i = f.first;
      j = f.second;
      t = up.t;
      u = up.u;
      clash = up.clash;
      a_is = ap (λ (j : PlacedTest). j.id) (sym (up.a_is ∙ some_is here));
      b_is = ap (λ (j : PlacedTest). j.id) (sym (up.b_is ∙ some_is there));
      least_cycle = λ i j c t u k.
          let d : Clash r (map placed_of tests) i j c = clash_down r R tests agrees i j c t u k in
          best.least i j c (within_placed r (map placed_of tests) i j c d) d;
      least_pair = λ i j t u k. not_before f.first f.second i j (λ before. best.first i j before (clash_down r R tests agrees i j f.cycle t u k));
    }
  where
    some_is : {x y : PlacedTest} → Some x ≡ Some y → x ≡ y
    some_is e = cc

-- ---- the three rules

pub one_bus : (parents : List ℕ) (tests : List PlannedTest) → Agrees (keeps_apart parents apart.OneBus) ShareBus tests
one_bus parents tests = record {
  to = λ i j t u at at' s. rw (s.0, s.1) (eq-eqb t.bus u.bus s.2);
  from = λ i j t u at at' h. shared t.tam u.tam t.bus u.bus h;
}
  where
    shared : (tam tam' : Bool) (bus bus' : ℕ) → same_slot (bus_over tam bus) (bus_over tam' bus') ≡ true → (tam ≡ true) × (tam' ≡ true) × (bus ≡ bus')
    shared true true bus bus' h = (refl, refl, eqb-true bus bus' h)
    shared true false bus bus' h = absurd (true≢false (sym h))
    shared false tam' bus bus' h = absurd (true≢false (sym h))

pub one_module : (parents : List ℕ) (tests : List PlannedTest) → Agrees (keeps_apart parents apart.OneModule) ShareModule tests
one_module parents tests = record {
  to = λ i j t u at at' s. eq-eqb t.place u.place s;
  from = λ i j t u at at' h. eqb-true t.place u.place h;
}

pub place_within : (soc : SocValue) (plan : PlanValue) (i : ℕ) (t : PlannedTest) → IsAt (planned soc plan) i t → t.place < length soc.modules
place_within soc plan i t at =
    let o : Origin soc plan i t = origin soc plan i t at in
    let same : o.l.place ≡ t.place = sym (planned_place plan o.l.place o.l.core o.l.test) ∙ ap (λ (t : PlannedTest). t.place) o.is in
    omega (arith, slice_get_within soc.modules o.l.place o.l.core o.module_at)

pub parent_and_child : (soc : SocValue) (plan : PlanValue) (parents : List ℕ) → AreParents soc parents → Agrees (keeps_apart parents apart.ParentAndChild) (AreParentAndChild soc) (planned soc plan)
parent_and_child soc plan parents are = record {
  to = λ i j t u at at' is.
      let h : HasParentAt soc parents u.place = are u.place (place_within soc plan j u at') in
      let e : slice_index parents u.place ≡ h.q = get_or_from_slice_get parents u.place h.q 0 h.at in
      eq-eqb t.place (slice_index parents u.place) (h.only t.place is ∙ sym e);
  from = λ i j t u at at' same.
      let h : HasParentAt soc parents u.place = are u.place (place_within soc plan j u at') in
      let e : slice_index parents u.place ≡ h.q = get_or_from_slice_get parents u.place h.q 0 h.at in
      let q : t.place ≡ h.q = eqb-true t.place (slice_index parents u.place) same ∙ e in
      rw q (h.is (omega (arith, place_within soc plan i t at)));
}

-- ---- the stage of each rule

pub stage_some : (a : Apart) (soc : SocValue) (limits : LimitsValue) (plan : PlanValue) (parents : List ℕ) → AreParents soc parents → (f : ClashPlace) → IsLeast (keeps_apart parents a) (placed_tests soc plan) (length (placed_tests soc plan)) 0 f →
    (x y : PlacedTest) → slice_get (placed_tests soc plan) f.first ≡ Some x → slice_get (placed_tests soc plan) f.second ≡ Some y → Shows soc limits plan (fault_value (clash_fault a x.id y.id f.cycle)) × (fault_rank (fault_value (clash_fault a x.id y.id f.cycle)) ≡ rank_of (rule_for a))
stage_some apart.OneBus soc limits plan parents are f best x y at at' = (least_clash (keeps_apart parents apart.OneBus) ShareBus (planned soc plan) (one_bus parents (planned soc plan)) f best x y at at', refl)
stage_some apart.OneModule soc limits plan parents are f best x y at at' = (least_clash (keeps_apart parents apart.OneModule) ShareModule (planned soc plan) (one_module parents (planned soc plan)) f best x y at at', refl)
stage_some apart.ParentAndChild soc limits plan parents are f best x y at at' = (least_clash (keeps_apart parents apart.ParentAndChild) (AreParentAndChild soc) (planned soc plan) (parent_and_child soc plan parents are) f best x y at at', refl)

pub stage_none : (a : Apart) (soc : SocValue) (limits : LimitsValue) (plan : PlanValue) (parents : List ℕ) → AreParents soc parents → IsBest (keeps_apart parents a) (placed_tests soc plan) (length (placed_tests soc plan)) 0 None → Keeps soc limits plan (rule_for a)
stage_none apart.OneBus soc limits plan parents are best = none_clash (keeps_apart parents apart.OneBus) ShareBus (planned soc plan) (one_bus parents (planned soc plan)) best
stage_none apart.OneModule soc limits plan parents are best = none_clash (keeps_apart parents apart.OneModule) ShareModule (planned soc plan) (one_module parents (planned soc plan)) best
stage_none apart.ParentAndChild soc limits plan parents are best = none_clash (keeps_apart parents apart.ParentAndChild) (AreParentAndChild soc) (planned soc plan) (parent_and_child soc plan parents are) best
