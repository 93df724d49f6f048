-- Modules that must share one bus: the value of a Forced certificate bounds every good plan.
use Rattle.std.proofs.Common.{◌≡◌, ℕ, ◌+◌, ◌≤◌, ◌<◌, Bool, true, false, Some, List, length, get_or, take, refl, ap, ◌∙◌, sym, arith, inl, inr, ◌⊎◌}
use Rattle.std.specs.Prelude.{slice_get, slice_index, nat_eq, ◌&&◌, if◌then◌else◌}
use Rattle.std.specs.List.{sum, sum_by, list_any}
use Rattle.std.proofs.lemmas.Bool.{cases_lt, cases_Bool, cases_order, eqb-true, and_parts, cases_eq}
use Rattle.std.proofs.lemmas.List.Sums.{sum_by-take-le, sum_by_more, get_or-le-sum_by}
use Rattle.std.proofs.lemmas.List.{get_or_past, take-take}
use Rattle.soc_model.specs.Chips.{SocValue, LiveTest}
use Rattle.plan_model.specs.Plans.{PlanValue, LimitsValue, PlannedTest, planned, widths, IsActive}
use Rattle.plan_model.specs.Right.{IsAt}
use Rattle.plan_model.specs.Rules.{IsGood, IsBound, Busy, Wires}
use Rattle.plan_model.specs.Bounds.{lower, sum_where, is_of, lower_tam_time, need}
use Rattle.plan_model.proofs.FirstAndLeast.{first_below-le}
use Rattle.plan_model.proofs.CertificatesByPlace.{forced_bound, AreForced}
use Rattle.plan_model.proofs.SumsOverCycles.{disjoint_bound}
use Rattle.plan_model.proofs.PlannedTests.{Origin, origin}
use Rattle.plan_model.proofs.TurnBounds.{planned_lower, fit_at, live-le-planned, end-le-cycles, place_says}
use Rattle.plan_model.proofs.PowerAndAreaBounds.{widths_fit, some_width, planned_bus_width, bus_width}
use Rattle.plan_model.proofs.GoodPlansRunRight.{planned_place}
use Rattle.plan_model.proofs.TestsInGoodPlans.{planned_tam, on_bus}
use Rattle.common_lemmas.proofs.Lists.{two_widths, any_at}

-- tests that pass, never meet, and have at most `w` chains
pub apart_bound_at : (soc : SocValue) (limits : LimitsValue) (plan : PlanValue) → IsGood soc limits plan → (w : ℕ) → 1 ≤ w → (p : LiveTest → Bool) (q : PlannedTest → Bool) →
    ((i : ℕ) (t : PlannedTest) (o : Origin soc plan i t) → p o.l ≡ q t) → ((i : ℕ) (t : PlannedTest) (o : Origin soc plan i t) → q t ≡ true → length t.chains ≤ w) →
    ((i j c : ℕ) (t u : PlannedTest) → i < j → IsAt (planned soc plan) i t → IsAt (planned soc plan) j u → q t ≡ true → q u ≡ true → IsActive t c → IsActive u c → ⊥) → sum_where p (lower w) soc ≤ plan.cycles
apart_bound_at soc limits plan good w some p q says fits never =
    let few : sum_by (λ t. if q t then length t.operations else 0) (planned soc plan) ≤ plan.cycles = disjoint_bound q (planned soc plan) plan.cycles never (λ i t at. end-le-cycles soc limits plan good i t at) in
    let lowers : sum_where p (lower w) soc ≤ sum_by (λ t. if q t then length t.operations else 0) (planned soc plan) =
    live-le-planned soc plan (λ l. if p l then lower w l else 0) (λ t. if q t then length t.operations else 0) (λ i t o. each i t o (says i t o) (cases_Bool (q t))) in
    omega arith
  where
    each : (i : ℕ) (t : PlannedTest) (o : Origin soc plan i t) → p o.l ≡ q t → (q t ≡ true) ⊎ (q t ≡ false) → (if p o.l then lower w o.l else 0) ≤ (if q t then length t.operations else 0)
    each i t o same (inl yes') = rw (same, yes') (planned_lower soc limits plan good w i some t o (fits i t o yes'))
    each i t o same (inr no') = rw (same, no') (omega arith)

tam_says : (soc : SocValue) (plan : PlanValue) (i : ℕ) (t : PlannedTest) (o : Origin soc plan i t) → o.l.test.tam ≡ t.tam
tam_says soc plan i t o = sym (planned_tam plan o.l.place o.l.core o.l.test) ∙ ap (λ (t : PlannedTest). t.tam) o.is

-- the tests of one module have one bus
same_width : (soc : SocValue) (plan : PlanValue) (i j : ℕ) (t u : PlannedTest) → Origin soc plan i t → Origin soc plan j u → t.place ≡ u.place → t.width ≡ u.width
same_width soc plan i j t u o o' same =
    let a : o.l.place ≡ t.place = sym (planned_place plan o.l.place o.l.core o.l.test) ∙ ap (λ (t : PlannedTest). t.place) o.is in
    let b : o'.l.place ≡ u.place = sym (planned_place plan o'.l.place o'.l.core o'.l.test) ∙ ap (λ (t : PlannedTest). t.place) o'.is in
    let one : o.l.place ≡ o'.l.place = a ∙ same ∙ sym b in
    let found : slice_get soc.modules o.l.place ≡ Some o.l.core = o.module_at in
    let found' : slice_get soc.modules o.l.place ≡ Some o'.l.core = rw one o'.module_at in
    let core : o.l.core ≡ o'.l.core = cc in
    ap (λ (t : PlannedTest). t.width) (sym o.is) ∙ planned_bus_width plan o.l ∙ ap (bus_width plan) core ∙ sym (planned_bus_width plan o'.l) ∙ ap (λ (t : PlannedTest). t.width) o'.is

busy : (soc : SocValue) (limits : LimitsValue) (plan : PlanValue) → IsGood soc limits plan → (i j c : ℕ) (t u : PlannedTest) → i < j → IsAt (planned soc plan) i t → IsAt (planned soc plan) j u → t.place ≡ u.place → IsActive t c → IsActive u c → ⊥
busy soc limits plan good i j c t u order at at' same active active' = good Busy i j c t u (record { first = at; second = at'; order = order; related = same; meet = (active, active') })

-- in a plan of fewer cycles a module of TAM tests needs its width
need-le : (soc : SocValue) (limits : LimitsValue) (plan : PlanValue) → IsGood soc limits plan → (b : ℕ) → plan.cycles < b → (i : ℕ) (t : PlannedTest) → IsAt (planned soc plan) i t → t.tam ≡ true → need soc limits.wires b t.place ≤ t.width
need-le soc limits plan good b short i t at tam =
    let o : Origin soc plan i t = origin soc plan i t at in
    let fit = fit_at soc limits plan good i t o in
    let wide : 1 ≤ t.width = some_width soc limits plan good i t o (tam_says soc plan i t o ∙ tam) in
    let time : lower_tam_time soc t.place t.width ≤ plan.cycles = apart_bound_at soc limits plan good t.width wide (λ l. l.test.tam && is_of t.place l) (λ u. u.tam && nat_eq u.place t.place)
    (λ j u o'. let a : o'.l.test.tam ≡ u.tam = tam_says soc plan j u o' in let b : nat_eq o'.l.place t.place ≡ nat_eq u.place t.place = place_says soc plan t.place j u o' in rw (a, b) refl)
    (λ j u o' q.
    let place : u.place ≡ t.place = eqb-true u.place t.place (and_parts u.tam (nat_eq u.place t.place) q).1 in
    let fit' = fit_at soc limits plan good j u o' in
    omega (arith, fit'.0, same_width soc plan j i u t o' o place))
    (λ j k c u v order at' at2 p q active active'.
    busy soc limits plan good j k c u v order at' at2 (eqb-true u.place t.place (and_parts u.tam (nat_eq u.place t.place) p).1 ∙ sym (eqb-true v.place t.place (and_parts v.tam (nat_eq v.place t.place) q).1)) active active') in
    first_below-le (lower_tam_time soc t.place) b limits.wires t.width wide fit.1 (omega arith)

-- two modules of the list are on one bus
on_one_bus : (soc : SocValue) (limits : LimitsValue) (plan : PlanValue) → IsGood soc limits plan → (b : ℕ) (places : List ℕ) → AreForced soc limits.wires b places → plan.cycles < b → (i j : ℕ) (t u : PlannedTest) → IsAt (planned soc plan) i t → IsAt (planned soc plan) j u → t.tam ≡ true → u.tam ≡ true →
    (n m : ℕ) → slice_get places n ≡ Some t.place → slice_get places m ≡ Some u.place → n < m → t.bus ≡ u.bus
on_one_bus soc limits plan good b places forced short i j t u at at' tam tam' n m here here' order =
    let f = forced n m t.place u.place here here' order in
    let needs : limits.wires < t.width + u.width = omega (arith, f.1, need-le soc limits plan good b short i t at tam, need-le soc limits plan good b short j u at' tam') in
    let w : t.width ≡ slice_index (widths plan) t.bus = (on_bus soc plan i t at).wide in
    let w' : u.width ≡ slice_index (widths plan) u.bus = (on_bus soc plan j u at').wide in
    let all : sum (widths plan) ≤ limits.wires = widths_fit soc limits plan good in
    elim (cases_order t.bus u.bus) [
      | inl same ↦ same
      | inr other ↦ elim other [
        | inl less ↦ absurd (omega (arith, two_widths (widths plan) t.bus u.bus less))
        | inr more ↦ absurd (omega (arith, two_widths (widths plan) u.bus t.bus more))
      ]
    ]

pub forced_bounds : (soc : SocValue) (limits : LimitsValue) (b : ℕ) (places : List ℕ) → 1 ≤ limits.wires → AreForced soc limits.wires b places → b ≤ forced_bound soc limits.wires places → IsBound soc limits b
forced_bounds soc limits b places some forced claim plan good = elim (cases_lt plan.cycles b) [
  | inr long ↦ long
  | inl short ↦
      let value : forced_bound soc limits.wires places ≤ plan.cycles = apart_bound_at soc limits plan good limits.wires some (λ l. l.test.tam && list_any (nat_eq l.place) places) (λ t. t.tam && list_any (nat_eq t.place) places)
      (λ i t o. let a : o.l.test.tam ≡ t.tam = tam_says soc plan i t o in let b : o.l.place ≡ t.place = sym (planned_place plan o.l.place o.l.core o.l.test) ∙ ap (λ (t : PlannedTest). t.place) o.is in rw (a, b) refl)
      (λ i t o q. let fit = fit_at soc limits plan good i t o in omega (arith, fit.0, fit.1))
      (λ i j c t u order at at' p q active active'. never short i j c t u order at at' (and_parts t.tam (list_any (nat_eq t.place) places) p) (and_parts u.tam (list_any (nat_eq u.place) places) q) active active') in
      omega arith
]
  where
    wires : (i j c : ℕ) (t u : PlannedTest) → i < j → IsAt (planned soc plan) i t → IsAt (planned soc plan) j u → t.tam ≡ true → u.tam ≡ true → IsActive t c → IsActive u c → t.bus ≡ u.bus → ⊥
    wires i j c t u order at at' tam tam' active active' same = good Wires i j c t u (record { first = at; second = at'; order = order; related = (tam, tam', same); meet = (active, active') })

    apart_or_not : plan.cycles < b → (i j c : ℕ) (t u : PlannedTest) → i < j → IsAt (planned soc plan) i t → IsAt (planned soc plan) j u → t.tam ≡ true → u.tam ≡ true → IsActive t c → IsActive u c →
        (n m : ℕ) → slice_get places n ≡ Some t.place → slice_get places m ≡ Some u.place → (t.place ≡ u.place) ⊎ (t.place ≡ u.place → ⊥) → (n ≡ m) ⊎ ((n < m) ⊎ (m < n)) → ⊥
    apart_or_not short i j c t u order at at' tam tam' active active' n m here here' (inl same) _ = busy soc limits plan good i j c t u order at at' same active active'
    apart_or_not short i j c t u order at at' tam tam' active active' n m here here' (inr other) (inl one) =
        let here2 : slice_get places m ≡ Some t.place = rw (← one) here in
        other cc
    apart_or_not short i j c t u order at at' tam tam' active active' n m here here' (inr other) (inr (inl less)) =
        wires i j c t u order at at' tam tam' active active' (on_one_bus soc limits plan good b places forced short i j t u at at' tam tam' n m here here' less)
    apart_or_not short i j c t u order at at' tam tam' active active' n m here here' (inr other) (inr (inr more)) =
        wires i j c t u order at at' tam tam' active active' (sym (on_one_bus soc limits plan good b places forced short j i u t at' at tam' tam m n here' here more))

    never : plan.cycles < b → (i j c : ℕ) (t u : PlannedTest) → i < j → IsAt (planned soc plan) i t → IsAt (planned soc plan) j u → (t.tam ≡ true) × (list_any (nat_eq t.place) places ≡ true) → (u.tam ≡ true) × (list_any (nat_eq u.place) places ≡ true) → IsActive t c → IsActive u c → ⊥
    never short i j c t u order at at' p q active active' =
        let n = any_at (nat_eq t.place) places p.1 in
        let m = any_at (nat_eq u.place) places q.1 in
        let x : t.place ≡ n.1 = eqb-true t.place n.1 n.3 in
        let y : u.place ≡ m.1 = eqb-true u.place m.1 m.3 in
        let here : slice_get places n.0 ≡ Some t.place = n.2 ∙ ap Some (sym x) in
        let here' : slice_get places m.0 ≡ Some u.place = m.2 ∙ ap Some (sym y) in
        apart_or_not short i j c t u order at at' p.0 q.0 active active' n.0 m.0 here here' (cases_eq t.place u.place) (cases_order n.0 m.0)
