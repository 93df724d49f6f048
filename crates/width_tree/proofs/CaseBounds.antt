-- No good plan has fewer cycles than an accepted tree claims.
use Rattle.std.proofs.Common.{◌≡◌, ◌≢◌, ℕ, zero, suc, ◌+◌, ◌-◌, ◌*◌, ◌≤◌, ◌<◌, max, min, Bool, true, false, Option, Some, None, List, [], ◌∷◌, ◌++◌, length, get_or, take, refl, sym, ap, ◌∙◌, subst, arith, inl, inr, ◌⊎◌, slice_get, slice_index, slice_set, nat_eq, ◌&&◌, IfSome, if◌then◌else◌, sum, sum_by, filter, Contains}
use Rattle.std.specs.List.{list_any}
use Rattle.std.proofs.lemmas.Bool.{cases_lt, cases_Bool, cases_eq, cases_order, eqb-true, and_parts}
use Rattle.std.proofs.lemmas.List.Sums.{sum_by-cons, sum_by-take-le, sum_by_more, get_or-le-sum_by}
use Rattle.std.proofs.lemmas.List.{get_or_past, take-take, length-take, get_or-take}
use Rattle.std.proofs.Math.Nat.{mul-le-mul}
use Rattle.std.proofs.lemmas.Option.{slice_get_within, slice_get_cases, get_or_from_slice_get, slice_get-map}
use Rattle.soc_model.specs.declared.Test.{Test}
use Rattle.soc_model.specs.Chips.{ModuleValue, SocValue, LiveTest, is_live, live_of, live_from, live_tests}
use Rattle.soc_model.specs.Lookups.{module_place}
use Rattle.soc_model.specs.Modes.{is_tam, has_tam}
use Rattle.soc_model.proofs.Places.{slice_get-from_position}
use Rattle.plan_model.specs.Plans.{PlanValue, LimitsValue, PlannedTest, planned, planned_test, widths, IsActive}
use Rattle.plan_model.specs.Right.{IsAt}
use Rattle.plan_model.specs.Rules.{Each, IsGood, Busy, Wires}
use Rattle.plan_model.specs.Bounds.{sum_below, quotient_up, lower, is_of, module_bound, lower_tam_time}
use Rattle.plan_model.specs.Certificates.{on, passes, has_tam_at, HasTamTest}
use Rattle.plan_model.proofs.CertificatesByPlace.{forced_bound}
use Rattle.plan_model.proofs.CertificatesAreBounds.{place_or, places_of, some_place, AreDistinct, forced_sum}
use Rattle.plan_model.proofs.ForcedBounds.{apart_bound_at}
use Rattle.plan_model.proofs.GoodPlansRunRight.{planned_place}
use Rattle.plan_model.proofs.LowerTimes.{quotient_up-le}
use Rattle.plan_model.proofs.Lists.{in_append_right}
use Rattle.plan_model.proofs.PlannedTests.{Origin, origin, IsLive, live_at}
use Rattle.plan_model.proofs.PowerAndAreaBounds.{widths_fit, some_width, planned_bus_width, bus_width, total_area}
use Rattle.plan_model.proofs.Sums.{sum_by-le_at, sum_by-times}
use Rattle.plan_model.proofs.SumsOverCycles.{sum_below-sum_by, sum_below-zero, sum_below-le_by, indicator-le}
use Rattle.plan_model.proofs.TestsInGoodPlans.{apart, on_bus, planned_tam}
use Rattle.plan_model.proofs.TurnBounds.{planned_lower, fit_at, live-le-planned, origin_at, place_says}
use Rattle.width_tree.specs.declared.intervals.Interval.{Interval}
use Rattle.width_tree.specs.Trees.{LeafValue, OfTime, OfArea, OfBus, OfApart, OfSplit, OfLeaf, WidthTree, Leaf, Branches}
use Rattle.width_tree.specs.Cases.{Case, interval, interval_at, root_case, narrow_at, wide_at, case_at, narrow_case, wide_case, NodeCase, in_case, cases_of, low_of, high_of, IsSplit, IsBusItem, AreExclusive, KeepsLeaf, area_in, tam_time_of, least_high, leaf_value}
use Rattle.width_tree.specs.Bounds.{IsEnough, AreEnough}
use Rattle.width_tree.specs.Findings.{IsInterval, AreIntervals}
use Rattle.width_tree.specs.Laws.{AcceptedTreesAreBounds}
use Rattle.width_tree.proofs.CaseFacts.{set_same, set_other, root_at, root_intervals, narrow_intervals, wide_intervals, least_over-le}
use Rattle.common_lemmas.proofs.Lists.{two_widths, from_map, any_at, at_left, in_filter, sum_map}

-- ---- planned tests and their widths

some_passes : {X : Type 0} (q : X → Bool) (o : Option X) → passes q o ≡ true → (x : X) × (o ≡ Some x) × (q x ≡ true)
some_passes q None h = cc
some_passes q (Some x) h = (x, refl, h)

abbrev the_live : ℕ → ModuleValue → Test → LiveTest
the_live p m t = record { place = p; core = m; test = t }

in_live : (ms : List ModuleValue) (base up p j : ℕ) (m : ModuleValue) (l : LiveTest) → p ≡ base + up → slice_get ms up ≡ Some m →
    slice_get (live_of p m) j ≡ Some l → (n : ℕ) × (slice_get (live_from base ms) n ≡ Some l)
unfolding live_from
in_live [] base up p j m l is at there = absurd cc
in_live (x ∷ ms) base zero p j m l is at there =
    let same : x ≡ m = cc in
    let here : base ≡ p = omega arith in
    (j, at_left (live_of base x) (live_from (base + 1) ms) j l (rw (here, same) there))
in_live (x ∷ ms) base (suc up) p j m l is at there =
    let r = in_live ms (base + 1) up p j m l (omega arith) at there in
    in_append_right (live_of base x) (live_from (base + 1) ms) r.0 l r.1

-- the area of a planned test over the wires of a module
abbrev area_drawn : ℕ → PlannedTest → ℕ
area_drawn p t = if t.tam && nat_eq t.place p then t.width * length t.operations else 0

-- the nearest value within low and high
abbrev clamp : (low high v : ℕ) → ℕ
clamp low high v = max low (min v high)

module _ (ms : List ℕ) (i j : ℕ) where
  contained : (m : ℕ) → slice_get ms i ≡ Some m → i < j → Contains (take j ms) m
  contained m at less =
      let within = slice_get_within ms i m at in
      (i, omega (arith, length-take j ms), get_or-take j ms i m less ∙ get_or_from_slice_get ms i m m at)

  same_item : (a b : ℕ) → slice_get ms i ≡ Some a → slice_get ms j ≡ Some b → i ≡ j → a ≡ b
  same_item a b at at' same =
      let here : slice_get ms j ≡ Some a = rw same at at in
      cc

module _ (soc : SocValue) where
  module _ (plan : PlanValue) (i : ℕ) where
    tam_says : (t : PlannedTest) (o : Origin soc plan i t) → o.l.test.tam ≡ t.tam
    tam_says t o = sym (planned_tam plan o.l.place o.l.core o.l.test) ∙ ap (λ (t : PlannedTest). t.tam) o.is

    place_is : (t : PlannedTest) (o : Origin soc plan i t) → o.l.place ≡ t.place
    place_is t o = sym (planned_place plan o.l.place o.l.core o.l.test) ∙ ap (λ (t : PlannedTest). t.place) o.is

    place_within : (t : PlannedTest) → IsAt (planned soc plan) i t → t.place < length soc.modules
    place_within t at =
        let o = origin soc plan i t at in
        omega (arith, place_is t o, slice_get_within soc.modules o.l.place o.l.core o.module_at)

    -- a test is as wide as the bus of its module
    width_is : (t : PlannedTest) (m : ModuleValue) → IsAt (planned soc plan) i t → slice_get soc.modules t.place ≡ Some m → t.width ≡ bus_width plan m
    width_is t m at here =
        let o = origin soc plan i t at in
        let found : slice_get soc.modules t.place ≡ Some o.l.core = rw (place_is t o) at o.module_at in
        let core : o.l.core ≡ m = cc in
        ap (λ (t : PlannedTest). t.width) (sym o.is) ∙ planned_bus_width plan o.l ∙ ap (bus_width plan) core

  -- the widths of the modules' buses are within the case
  record IsWithin (plan : PlanValue) (c : Case) : Type 0 where
    low : (i : ℕ) (t : PlannedTest) → IsAt (planned soc plan) i t → t.tam ≡ true → (interval_at c t.place).low ≤ t.width
    high : (i : ℕ) (t : PlannedTest) → IsAt (planned soc plan) i t → t.tam ≡ true → t.width ≤ (interval_at c t.place).high

  -- a new interval of one module
  set_within : (plan : PlanValue) (c : Case) (p : ℕ) (v : Interval) → IsWithin plan c → p < length c →
      ((i : ℕ) (t : PlannedTest) → IsAt (planned soc plan) i t → t.tam ≡ true → t.place ≡ p → (v.low ≤ t.width) × (t.width ≤ v.high)) →
      IsWithin plan (slice_set c p v)
  set_within plan c p v is within new = record {
    low = λ i t at tam. elim (cases_eq t.place p) [
      | inl same ↦ rw (same, set_same c p v within) (new i t at tam same).0
      | inr other ↦ rw (set_other c p t.place v other) (is.low i t at tam)
    ];
    high = λ i t at tam. elim (cases_eq t.place p) [
      | inl same ↦ rw (same, set_same c p v within) (new i t at tam same).1
      | inr other ↦ rw (set_other c p t.place v other) (is.high i t at tam)
    ];
  }

  module _ (plan : PlanValue) (p : ℕ) where
    -- a planned test over the wires
    record TamPlanned : Type 0 where
      i : ℕ
      t : PlannedTest
      at : IsAt (planned soc plan) i t
      tam : t.tam ≡ true
      place : t.place ≡ p

    tam_planned : has_tam_at soc p ≡ true → TamPlanned
    tam_planned has =
        let m = some_passes has_tam (slice_get soc.modules p) has in
        let k = any_at is_tam (m.0).tests m.2 in
        let both = and_parts (is_live k.1) (k.1).tam k.3 in
        let f = in_filter is_live (m.0).tests k.0 k.1 k.2 both.0 in
        let there : slice_get (live_of p m.0) f.0 ≡ Some (the_live p m.0 k.1) = slice_get-map (the_live p m.0) (filter is_live (m.0).tests) f.0 ∙ rw f.1 refl in
        let n = in_live soc.modules 0 p p f.0 m.0 (the_live p m.0 k.1) (omega arith) m.1 there in
        let o : Origin soc plan n.0 (planned_test plan p m.0 k.1) = record { l = the_live p m.0 k.1; at = n.1; n = f.0; module_at = m.1; test_at = f.1; is = refl } in
        record {
          i = n.0;
          t = planned_test plan p m.0 k.1;
          at = origin_at soc plan n.0 (planned_test plan p m.0 k.1) o;
          tam = planned_tam plan p m.0 k.1 ∙ both.1;
          place = planned_place plan p m.0 k.1;
        }

  nothing_past : (w p : ℕ) → length soc.modules ≤ p → module_bound soc w p ≤ 0
  nothing_past w p past =
      let none = sum_by-le_at (λ l. if is_of p l then lower w l else 0) (λ l. 0) (live_tests soc) (λ i l at. each i l at (cases_Bool (is_of p l))) in
      omega (arith, zeros (live_tests soc))
    where
      each : (i : ℕ) (l : LiveTest) → slice_get (live_tests soc) i ≡ Some l → (is_of p l ≡ true) ⊎ (is_of p l ≡ false) → (if is_of p l then lower w l else 0) ≤ 0
      each i l at (inr no') = rw no' (omega arith)
      each i l at (inl yes') =
          let o = live_at soc.modules 0 i l at in
          absurd (omega (arith, eqb-true l.place p yes', slice_get_within soc.modules o.up l.core o.module_at))

      zeros : (ls : List LiveTest) → sum_by (λ l. 0) ls ≡ 0
      zeros [] = refl
      zeros (l ∷ ls) =
          let ih = zeros ls in
          let split = sum_by-cons (λ l. 0) l ls in
          omega arith

  module _ (limits : LimitsValue) (plan : PlanValue) where
    module _ (good : IsGood soc limits plan) where
      root_within : IsWithin plan (root_case soc limits.wires)
      root_within = record {
        low = λ i t at tam.
            let o = origin soc plan i t at in
            rw (root_at soc limits.wires t.place (place_within plan i t at)) (some_width soc limits plan good i t o (tam_says plan i t o ∙ tam));
        high = λ i t at tam.
            rw (root_at soc limits.wires t.place (place_within plan i t at)) ((fit_at soc limits plan good i t (origin soc plan i t at)).1);
      }

      -- ---- a module with a test over the wires has a planned one

      -- ---- Time

      busy : (i j k : ℕ) (t u : PlannedTest) → i < j → IsAt (planned soc plan) i t → IsAt (planned soc plan) j u → t.place ≡ u.place → IsActive t k → IsActive u k → ⊥
      busy i j k t u order at at' same active active' = good Busy i j k t u (record { first = at; second = at'; order = order; related = same; meet = (active, active') })

    module _ (c : Case) (good : IsGood soc limits plan) (is : IsWithin plan c) where
      -- the chains of a test are within the greatest width of its module
      chains_fit : (i : ℕ) (t : PlannedTest) → IsAt (planned soc plan) i t → length t.chains ≤ (interval_at c t.place).high
      chains_fit i t at = elim (cases_lt 0 (length t.chains)) [
        | inr none ↦ omega arith
        | inl some ↦
            let o = origin soc plan i t at in
            let tam : t.tam ≡ true = (apart soc limits plan good).tam i 0 t at some in
            omega (arith, (fit_at soc limits plan good i t o).0, is.high i t at tam)
      ]

      time_bounds : AreIntervals limits.wires (length soc.modules) c → (p : ℕ) → module_bound soc (interval_at c p).high p ≤ plan.cycles
      time_bounds are p = elim (cases_lt p (length soc.modules)) [
        | inr past ↦ omega (arith, nothing_past (interval_at c p).high p past)
        | inl within ↦
            let i = are.each p within in
            apart_bound_at soc limits plan good (interval_at c p).high (omega (arith, i.some, i.order)) (is_of p) (λ t. nat_eq t.place p) (λ j t o. place_says soc plan p j t o)
            (λ j t o q.
            rw (eqb-true t.place p q) at (chains_fit j t (origin_at soc plan j t o)))
            (λ j k v t u order at at' a b active active'. busy good j k v t u order at at' (eqb-true t.place p a ∙ sym (eqb-true u.place p b)) active active')
      ]

      -- ---- Area

      area_at : (p : ℕ) (m : ModuleValue) → slice_get soc.modules p ≡ Some m → (v : ℕ) →
          v ≡ clamp (interval_at c p).low (interval_at c p).high (bus_width plan m) → 1 ≤ v →
          (i : ℕ) (t : PlannedTest) (o : Origin soc plan i t) → (o.l.test.tam && is_of p o.l ≡ true) ⊎ (o.l.test.tam && is_of p o.l ≡ false) →
          (if o.l.test.tam && is_of p o.l then v * lower v o.l else 0) ≤ area_drawn p t
      area_at p m here v v_is some i t o (inr no') = rw no' (omega arith)
      area_at p m here v v_is some i t o (inl yes') =
          let both = and_parts o.l.test.tam (is_of p o.l) yes' in
          let at = origin_at soc plan i t o in
          let tam = sym (tam_says plan i t o) ∙ both.0 in
          let place = sym (place_is plan i t o) ∙ eqb-true o.l.place p both.1 in
          let here' : slice_get soc.modules t.place ≡ Some m = rw place here in
          let width = width_is plan i t m at here' in
          let low = rw place at (is.low i t at tam) in
          let high = rw place at (is.high i t at tam) in
          let same : v ≡ t.width = omega (arith, low, high) in
          let fit = fit_at soc limits plan good i t o in
          let long = planned_lower soc limits plan good v i some t o (omega arith) in
          rw (yes', tam, (sym (place_says soc plan p i t o) ∙ both.1)) (mul-le-mul (omega arith) long)

      area_in-le : (p : ℕ) (m : ModuleValue) → slice_get soc.modules p ≡ Some m → IsInterval limits.wires (interval_at c p) →
          area_in soc c p ≤ sum_by (area_drawn p) (planned soc plan)
      area_in-le p m here i = at (clamp (interval_at c p).low (interval_at c p).high (bus_width plan m)) refl
        where
          at : (v : ℕ) → v ≡ clamp (interval_at c p).low (interval_at c p).high (bus_width plan m) → area_in soc c p ≤ sum_by (area_drawn p) (planned soc plan)
          at v v_is =
              let least = least_over-le (λ v. v * lower_tam_time soc p v) (interval_at c p).low ((interval_at c p).high - (interval_at c p).low) v (omega arith) (omega arith) in
              let in' = sum_by-times (λ (l : LiveTest). l.test.tam && is_of p l) (lower v) v (live_tests soc) in
              let all =
              live-le-planned soc plan (λ l. if l.test.tam && is_of p l then v * lower v l else 0) (area_drawn p)
              (λ j t o. area_at p m here v v_is (omega arith) j t o (cases_Bool (o.l.test.tam && is_of p o.l))) in
              omega arith

    area_bounds : (c : Case) → 1 ≤ limits.wires → IsGood soc limits plan → IsWithin plan c → AreIntervals limits.wires (length soc.modules) c →
        quotient_up (sum_below (area_in soc c) (length soc.modules)) limits.wires ≤ plan.cycles
    area_bounds c some good is are =
        let by_module =
        sum_below-le_by (area_in soc c) (λ p. sum_by (area_drawn p) (planned soc plan)) (length soc.modules) (λ p l. at_place p (slice_get_cases soc.modules p).1 l) in
        let swap =
        sum_below-sum_by (λ t p. area_drawn p t) (planned soc plan) (length soc.modules) in
        let once =
        sum_by-le_at (λ t. sum_below (λ p. area_drawn p t) (length soc.modules)) (λ t. if t.tam then t.width * length t.operations else 0) (planned soc plan) (λ i t at. each t (cases_Bool t.tam)) in
        quotient_up-le (sum_below (area_in soc c) (length soc.modules)) plan.cycles limits.wires some (omega (arith, total_area soc limits plan good))
      where
        at_place : (p : ℕ) → ((x : ModuleValue) × (p < length soc.modules) × (slice_get soc.modules p ≡ Some x) × (get_or soc.modules p x ≡ x)) ⊎ ((length soc.modules ≤ p) × (slice_get soc.modules p ≡ None)) → p < length soc.modules → area_in soc c p ≤ sum_by (area_drawn p) (planned soc plan)
        at_place p (inl m) h = area_in-le c good is p m.0 m.2 (are.each p h)
        at_place p (inr past) h = absurd (omega arith)

        each : (t : PlannedTest) → (t.tam ≡ true) ⊎ (t.tam ≡ false) → sum_below (λ p. area_drawn p t) (length soc.modules) ≤ (if t.tam then t.width * length t.operations else 0)
        each t (inl yes') = rw yes' (indicator-le (λ p. t.width * length t.operations) t.place (length soc.modules))
        each t (inr no') = rw (no', sum_below-zero (length soc.modules)) (omega arith)

    -- ---- modules that need one bus

    module _ (good : IsGood soc limits plan) (i j : ℕ) (t u : PlannedTest) (at : IsAt (planned soc plan) i t) (at' : IsAt (planned soc plan) j u)
        (much : limits.wires < t.width + u.width) where
      -- two tests that are too wide for two buses share one
      one_bus : t.bus ≡ u.bus
      one_bus =
          let w : t.width ≡ slice_index (widths plan) t.bus = (on_bus soc plan i t at).wide in
          let w' : u.width ≡ slice_index (widths plan) u.bus = (on_bus soc plan j u at').wide in
          let all = widths_fit soc limits plan good in
          elim (cases_order t.bus u.bus) [
            | inl same ↦ same
            | inr other ↦ elim other [
              | inl less ↦ absurd (omega (arith, two_widths (widths plan) t.bus u.bus less))
              | inr more ↦ absurd (omega (arith, two_widths (widths plan) u.bus t.bus more))
            ]
          ]

      -- then they have one width
      one_width : t.width ≡ u.width
      one_width =
          (on_bus soc plan i t at).wide ∙ ap (slice_index (widths plan)) one_bus ∙ sym (on_bus soc plan j u at').wide

  module _ (c : Case) (m : ℕ) where
    -- a module of a list that has a test over the wires
    record IsEntry : Type 0 where
      place : module_place soc m ≡ Some (place_or soc m)
      tam : has_tam_at soc (place_or soc m) ≡ true
      low : low_of soc c m ≡ (interval_at c (place_or soc m)).low
      high : high_of soc c m ≡ (interval_at c (place_or soc m)).high

    entry : HasTamTest soc m → IsEntry
    entry has =
        let here = some_place soc (has_tam_at soc) m has in
        record {
          place = here;
          tam = rw here at has;
          low = ap (λ o. on o (λ place. (interval_at c place).low)) here;
          high = ap (λ o. on o (λ place. (interval_at c place).high)) here;
        }

  same_number : (m n p : ℕ) → module_place soc m ≡ Some p → module_place soc n ≡ Some p → m ≡ n
  same_number m n p a b =
      let one = slice_get-from_position soc.keys m p a in
      let two = slice_get-from_position soc.keys n p b in
      cc

  module _ (w : ℕ) where
    least_high-ge : (v : ℕ) (c : Case) (ms : List ℕ) → v ≤ w → ((j m : ℕ) → slice_get ms j ≡ Some m → v ≤ high_of soc c m) → v ≤ least_high soc w c ms
    least_high-ge v c [] top each = top
    least_high-ge v c (m ∷ ms) top each =
        let first : v ≤ high_of soc c m = each 0 m refl in
        let rest = least_high-ge v c ms top (λ j n at. each (suc j) n at) in
        omega arith

    module _ (claim : ℕ) (n : NodeCase) (xs ys : List NodeCase) (enough : AreEnough soc w claim (n ∷ (xs ++ ys))) where
      -- the nodes of the branches
      first_enough : AreEnough soc w claim xs
      first_enough k x at = enough (suc k) x (at_left xs ys k x at)

      second_enough : AreEnough soc w claim ys
      second_enough k x at = let r = in_append_right xs ys k x at in enough (suc r.0) x r.1

  module _ (limits : LimitsValue) (plan : PlanValue) where
    module _ (c : Case) where
      -- tests of two modules that are too wide for two buses
      too_wide_tests : IsWithin plan c → (a b : ℕ) → IsEntry c a → IsEntry c b → limits.wires < low_of soc c a + low_of soc c b →
          (i j : ℕ) (t u : PlannedTest) → IsAt (planned soc plan) i t → IsAt (planned soc plan) j u → t.tam ≡ true → u.tam ≡ true →
          t.place ≡ place_or soc a → u.place ≡ place_or soc b → limits.wires < t.width + u.width
      too_wide_tests is a b ea eb much i j t u at at' tam tam' here here' =
          let one = rw here at (is.low i t at tam) in
          let two = rw here' at (is.low j u at' tam') in
          omega arith

      bus_bounds : 1 ≤ limits.wires → IsGood soc limits plan → IsWithin plan c → AreIntervals limits.wires (length soc.modules) c → (ms : List ℕ) →
          Each (IsBusItem soc limits.wires c) ms →
          sum_by (tam_time_of soc (least_high soc limits.wires c ms)) ms ≤ plan.cycles
      bus_bounds some good is are ms keeps = value (least_high soc limits.wires c ms) high_some high_of_test
        where
          item : (j m : ℕ) → slice_get ms j ≡ Some m → IsEntry c m
          item j m at = entry c m (keeps j m at).tam

          wide : (i j k l : ℕ) (t u : PlannedTest) (a b : ℕ) → IsAt (planned soc plan) k t → IsAt (planned soc plan) l u → t.tam ≡ true → u.tam ≡ true → slice_get ms i ≡ Some a → slice_get ms j ≡ Some b → t.place ≡ place_or soc a → u.place ≡ place_or soc b → i < j → limits.wires < t.width + u.width
          wide i j k l t u a b at at' tam tam' ia jb here here' less =
              too_wide_tests is a b (item i a ia) (item j b jb) ((keeps j b jb).too_wide a (contained ms i j a ia less)) k l t u at at' tam tam' here here'

          high_at : (j m : ℕ) → slice_get ms j ≡ Some m → 1 ≤ high_of soc c m
          high_at j m at =
              let e = item j m at in
              let x = some_passes (λ x. has_tam x) (slice_get soc.modules (place_or soc m)) e.tam in
              let i = are.each (place_or soc m) (slice_get_within soc.modules (place_or soc m) x.0 x.1) in
              omega (arith, i.some, i.order)

          high_some : 1 ≤ least_high soc limits.wires c ms
          high_some = least_high-ge limits.wires 1 c ms some high_at

          high_of_test : (k : ℕ) (t : PlannedTest) → IsAt (planned soc plan) k t → t.tam ≡ true → list_any (nat_eq t.place) (places_of soc ms) ≡ true → t.width ≤ least_high soc limits.wires c ms
          high_of_test k t at tam any =
              let o = origin soc plan k t at in
              let p = any_at (nat_eq t.place) (places_of soc ms) any in
              let n = from_map (place_or soc) ms p.0 p.1 p.2 in
              let here = eqb-true t.place p.1 p.3 ∙ sym n.2 in
              least_high-ge limits.wires t.width c ms ((fit_at soc limits plan good k t o).1) (λ j m jm. elim (cases_order p.0 j) [
                | inl same ↦
                    let one = same_item ms p.0 j n.0 m n.1 jm same in
                    let e = item j m jm in
                    let high = rw (here, one) at (is.high k t at tam) in
                    omega (arith, high)
                | inr other ↦
                    let e = item j m jm in
                    let u = tam_planned plan (place_or soc m) e.tam in
                    let high = rw u.place at (is.high u.i u.t u.at u.tam) in
                    elim other [
                      | inl less ↦ omega (arith, high, one_width limits plan good k u.i t u.t at u.at (wide p.0 j k u.i t u.t n.0 m at u.at tam u.tam n.1 jm here u.place less))
                      | inr more ↦ omega (arith, high, one_width limits plan good u.i k u.t t u.at at (wide j p.0 u.i k u.t t m n.0 u.at at u.tam tam jm n.1 u.place here more))
                    ]
              ])

          distinct : AreDistinct (places_of soc ms)
          distinct i j x y ix jy less same =
              let m = from_map (place_or soc) ms i x ix in
              let n = from_map (place_or soc) ms j y jy in
              let here : module_place soc m.0 ≡ Some x = (item i m.0 m.1).place ∙ ap Some m.2 in
              let there : module_place soc n.0 ≡ Some x = (item j n.0 n.1).place ∙ ap Some (n.2 ∙ sym same) in
              let one = same_number m.0 n.0 x here there in
              (keeps j n.0 n.1).new (rw (← one) (contained ms i j m.0 m.1 less))

          wires : (k l v : ℕ) (t u : PlannedTest) → k < l → IsAt (planned soc plan) k t → IsAt (planned soc plan) l u → t.tam ≡ true → u.tam ≡ true → IsActive t v → IsActive u v → t.bus ≡ u.bus → ⊥
          wires k l v t u order at at' tam tam' active active' same = good Wires k l v t u (record { first = at; second = at'; order = order; related = (tam, tam', same); meet = (active, active') })

          never : (k l v : ℕ) (t u : PlannedTest) → k < l → IsAt (planned soc plan) k t → IsAt (planned soc plan) l u → t.tam && list_any (nat_eq t.place) (places_of soc ms) ≡ true → u.tam && list_any (nat_eq u.place) (places_of soc ms) ≡ true → IsActive t v → IsActive u v → ⊥
          never k l v t u order at at' a b active active' =
              let x = and_parts t.tam (list_any (nat_eq t.place) (places_of soc ms)) a in
              let y = and_parts u.tam (list_any (nat_eq u.place) (places_of soc ms)) b in
              let p = any_at (nat_eq t.place) (places_of soc ms) x.1 in
              let q = any_at (nat_eq u.place) (places_of soc ms) y.1 in
              let m = from_map (place_or soc) ms p.0 p.1 p.2 in
              let n = from_map (place_or soc) ms q.0 q.1 q.2 in
              let here = eqb-true t.place p.1 p.3 ∙ sym m.2 in
              let there = eqb-true u.place q.1 q.3 ∙ sym n.2 in
              elim (cases_order p.0 q.0) [
                | inl same ↦
                    let one = same_item ms p.0 q.0 m.0 n.0 m.1 n.1 same in
                    busy limits plan good k l v t u order at at' (here ∙ ap (place_or soc) one ∙ sym there) active active'
                | inr other ↦ elim other [
                  | inl less ↦ wires k l v t u order at at' x.0 y.0 active active' (one_bus limits plan good k l t u at at' (wide p.0 q.0 k l t u m.0 n.0 at at' x.0 y.0 m.1 n.1 here there less))
                  | inr more ↦ wires k l v t u order at at' x.0 y.0 active active' (sym (one_bus limits plan good l k u t at' at (wide q.0 p.0 l k u t n.0 m.0 at' at y.0 x.0 n.1 m.1 there here more)))
                ]
              ]

          value : (h : ℕ) → 1 ≤ h → ((k : ℕ) (t : PlannedTest) → IsAt (planned soc plan) k t → t.tam ≡ true → list_any (nat_eq t.place) (places_of soc ms) ≡ true → t.width ≤ h) → sum_by (tam_time_of soc h) ms ≤ plan.cycles
          value h some_high fits =
              let by_places = sum_by-le_at (tam_time_of soc h) (λ m. lower_tam_time soc (place_or soc m) h) ms (λ i m at. least (module_place soc m)) in
              let mapped = sum_map (λ p. lower_tam_time soc p h) (place_or soc) ms in
              let all = forced_sum soc h (places_of soc ms) distinct in
              let stack : forced_bound soc h (places_of soc ms) ≤ plan.cycles = apart_bound_at soc limits plan good h some_high (λ l. l.test.tam && list_any (nat_eq l.place) (places_of soc ms)) (λ t. t.tam && list_any (nat_eq t.place) (places_of soc ms))
              (λ k t o. let a = tam_says plan k t o in let b = place_is plan k t o in rw (a, b) refl)
              (λ k t o q.
              let both = and_parts t.tam (list_any (nat_eq t.place) (places_of soc ms)) q in
              omega (arith, (fit_at soc limits plan good k t o).0, fits k t (origin_at soc plan k t o) both.0 both.1))
              never in
              omega arith
            where
              least : (o : Option ℕ) → on o (λ p. lower_tam_time soc p h) ≤ lower_tam_time soc (on o (λ p. p)) h
              least None = omega arith
              least (Some p) = omega arith

      -- ---- a case without good plans

      apart_never : IsGood soc limits plan → IsWithin plan c → (a b : ℕ) → AreExclusive soc limits.wires c a b → ⊥
      apart_never good is a b x =
          let ea = entry c a x.first in
          let eb = entry c b x.second in
          let t = tam_planned plan (place_or soc a) ea.tam in
          let u = tam_planned plan (place_or soc b) eb.tam in
          let much = too_wide_tests is a b ea eb x.too_wide t.i u.i t.t u.t t.at u.at t.tam u.tam t.place u.place in
          let same = one_width limits plan good t.i u.i t.t u.t t.at u.at much in
          let low = rw t.place at (is.low t.i t.t t.at t.tam) in
          let high = rw t.place at (is.high t.i t.t t.at t.tam) in
          let low' = rw u.place at (is.low u.i u.t u.at u.tam) in
          let high' = rw u.place at (is.high u.i u.t u.at u.tam) in
          elim x.disjoint [
            | inl less ↦ omega (arith, low, high)
            | inr more ↦ omega (arith, low, high)
          ]

    -- ---- whole trees

    module _ (claim : ℕ) where
      leaf_bounds : (c : Case) → 1 ≤ limits.wires → IsGood soc limits plan → IsWithin plan c → AreIntervals limits.wires (length soc.modules) c →
          (leaf : LeafValue) → KeepsLeaf soc limits.wires c leaf → IfSome (leaf_value soc limits.wires c leaf) (λ v. claim ≤ v) → claim ≤ plan.cycles
      leaf_bounds c some good is are (OfTime m) keeps shows = go (module_place soc m) shows
        where
          go : (o : Option ℕ) → claim ≤ on o (λ place. module_bound soc (interval_at c place).high place) → claim ≤ plan.cycles
          go None h = omega arith
          go (Some p) h = omega (arith, time_bounds limits plan c good is are p)
      leaf_bounds c some good is are OfArea keeps shows = omega (arith, area_bounds limits plan c some good is are)
      leaf_bounds c some good is are (OfBus ms) keeps shows = omega (arith, bus_bounds c some good is are ms keeps)
      leaf_bounds c some good is are (OfApart a b) keeps shows = absurd (apart_never c good is a b keeps)

      tree_bounds : 1 ≤ limits.wires → IsGood soc limits plan → (tree : WidthTree) (c : Case) → IsWithin plan c →
          AreIntervals limits.wires (length soc.modules) c → AreEnough soc limits.wires claim (cases_of soc c tree) → claim ≤ plan.cycles
      unfolding cases_of
      tree_bounds some good (Leaf leaf) c is are enough =
          let here : IsEnough soc limits.wires claim (in_case c (OfLeaf leaf)) = enough 0 (in_case c (OfLeaf leaf)) refl in
          leaf_bounds c some good is are leaf here.rule here.shows
      tree_bounds some good (Branches m width a b) c is are enough =
          let here : IsEnough soc limits.wires claim (in_case c (OfSplit m width)) = enough 0 (in_case c (OfSplit m width)) refl in
          let rule = here.rule in
          let e = entry c m rule.tam in
          let x = some_passes has_tam (slice_get soc.modules (place_or soc m)) e.tam in
          let first = first_enough limits.wires claim (in_case c (OfSplit m width)) (cases_of soc (narrow_case soc c m width) a) (cases_of soc (wide_case soc c m width) b) enough in
          let second = second_enough limits.wires claim (in_case c (OfSplit m width)) (cases_of soc (narrow_case soc c m width) a) (cases_of soc (wide_case soc c m width) b) enough in
          go rule e x.0 x.1
          (λ is' are'. tree_bounds some good a (narrow_at c width (place_or soc m)) is' are' (rw (← (ap (case_at c (narrow_at c width)) e.place)) first))
          (λ is' are'. tree_bounds some good b (wide_at c width (place_or soc m)) is' are' (rw (← (ap (case_at c (wide_at c width)) e.place)) second))
        where
          go : IsSplit soc c m width → IsEntry c m → (core : ModuleValue) → slice_get soc.modules (place_or soc m) ≡ Some core
              → (IsWithin plan (narrow_at c width (place_or soc m)) → AreIntervals limits.wires (length soc.modules) (narrow_at c width (place_or soc m)) → claim ≤ plan.cycles)
              → (IsWithin plan (wide_at c width (place_or soc m)) → AreIntervals limits.wires (length soc.modules) (wide_at c width (place_or soc m)) → claim ≤ plan.cycles)
              → claim ≤ plan.cycles
          go rule e core at narrow wide =
              let less = slice_get_within soc.modules (place_or soc m) core at in
              let low : (interval_at c (place_or soc m)).low ≤ width = omega arith in
              let high : width < (interval_at c (place_or soc m)).high = omega arith in
              elim (cases_lt width (bus_width plan core)) [
                | inl more ↦
                    wide (set_within plan c (place_or soc m) (interval (width + 1) (interval_at c (place_or soc m)).high) is (omega arith)
                    (λ i t at' tam here. (omega (arith, width_is plan i t core at' (rw here at)), rw here at (is.high i t at' tam))))
                    (wide_intervals limits.wires (length soc.modules) c width (place_or soc m) are less high)
                | inr few ↦
                    narrow (set_within plan c (place_or soc m) (interval (interval_at c (place_or soc m)).low width) is (omega arith)
                    (λ i t at' tam here. (rw here at (is.low i t at' tam), omega (arith, width_is plan i t core at' (rw here at)))))
                    (narrow_intervals limits.wires (length soc.modules) c width (place_or soc m) are less low high)
              ]

pub accepted_bounds : AcceptedTreesAreBounds
accepted_bounds soc limits t some accepted plan good =
    tree_bounds soc limits plan t.claimed some good accepted.tree (root_case soc limits.wires) (root_within soc limits plan good) (root_intervals soc limits.wires some) accepted.enough
