-- Power and wires, counted over all cycles: the values of Power and Area certificates bound every good plan.
use Rattle.std.proofs.Common.{◌≡◌, ℕ, zero, suc, ◌*◌, ◌≤◌, ◌<◌, max, Bool, true, false, Option, Some, None, List, length, get_or, take, refl, ap, ◌∙◌, sym, arith, add-one, inl, inr, ◌⊎◌}
use Rattle.std.specs.Prelude.{slice_get, slice_index, nat_eq, ◌&&◌, if◌then◌else◌}
use Rattle.std.specs.List.{sum, sum_by}
use Rattle.std.proofs.lemmas.Bool.{cases_lt, cases_Bool, eqb-true, and_parts}
use Rattle.std.proofs.lemmas.List.Sums.{sum_by_more, sum-map}
use Rattle.std.proofs.lemmas.List.{get_or_past, take-map, take_all}
use Rattle.std.proofs.lemmas.Option.{slice_get_cases, slice_get-get_or}
use Rattle.std.proofs.Math.Nat.{mul-le-mul, mul-le-mul_left, mul_comm}
use Rattle.soc_model.specs.Chips.{ModuleValue, SocValue, LiveTest, live_tests, id_of}
use Rattle.plan_model.specs.Plans.{BusValue, PlanValue, LimitsValue, PlannedTest, planned, planned_test, widths, bus_place, chains_of, is_active, end_of, power_of, power_of_id}
use Rattle.plan_model.specs.Rules.{IsGood, IsBound, Widths, Wrappers, Wires, Power}
use Rattle.plan_model.specs.Bounds.{sum_below, lower, is_of, least_energy, power_bound, lower_tam_time, module_area, area_bound}
use Rattle.plan_model.specs.Cells.{scan_lengths}
use Rattle.plan_model.proofs.FirstAndLeast.{least-le}
use Rattle.plan_model.proofs.Sums.{one_if, at_most_one, sum_by-le_at, sum_by-filter, sum_by-constant, sum_by-times}
use Rattle.plan_model.proofs.SumsOverCycles.{while_active, sum_while_active, sum_below-sum_by, sum_below-le, sum_below-zero, active_is, sum_below-mono, sum_below-indices, indicator-le, le-indicator, sum_below-le_by, sum_below-const}
use Rattle.plan_model.proofs.CellOrder.{length-dealt}
use Rattle.plan_model.proofs.LowerTimes.{quotient_up-le}
use Rattle.plan_model.proofs.PlannedTests.{Origin, Wrapped, wrapped}
use Rattle.plan_model.proofs.TurnBounds.{planned_lower, fit_at, live-le-planned, end-le-cycles, origin_at, width_fits, planned_chains, place_says}
use Rattle.plan_model.proofs.TestsInGoodPlans.{on_bus, planned_tam}
use Rattle.common_lemmas.proofs.Lists.{from_map}

-- ---- Power

planned_power : (plan : PlanValue) (l : LiveTest) → (limits : LimitsValue) → power_of limits (planned_test plan l.place l.core l.test) ≡ power_of_id limits (id_of l) l.test.power
unfolding planned_test
planned_power plan l limits = refl

energy_le : (soc : SocValue) (limits : LimitsValue) (plan : PlanValue) → IsGood soc limits plan → 1 ≤ limits.wires → least_energy soc limits ≤ sum_by (λ t. sum_below (while_active (power_of limits t) t) plan.cycles) (planned soc plan)
energy_le soc limits plan good some =
    live-le-planned soc plan (λ l. sum_below (power_of_id limits (id_of l) l.test.power) (lower limits.wires l)) (λ t. sum_below (while_active (power_of limits t) t) plan.cycles) each
  where
    each : (i : ℕ) (t : PlannedTest) (o : Origin soc plan i t) → sum_below (power_of_id limits (id_of o.l) o.l.test.power) (lower limits.wires o.l) ≤ sum_below (while_active (power_of limits t) t) plan.cycles
    each i t o =
        let fit = fit_at soc limits plan good i t o in
        let long : lower limits.wires o.l ≤ length t.operations = planned_lower soc limits plan good limits.wires i some t o (omega (arith, fit.0, fit.1)) in
        let same : power_of limits t ≡ power_of_id limits (id_of o.l) o.l.test.power = ap (power_of limits) (sym o.is) ∙ planned_power plan o.l limits in
        rw (sum_while_active (power_of limits t) t plan.cycles (end-le-cycles soc limits plan good i t (origin_at soc plan i t o)), same) (sum_below-mono (power_of_id limits (id_of o.l) o.l.test.power) (lower limits.wires o.l) (length t.operations) long)

pub power_bounds : (soc : SocValue) (limits : LimitsValue) → 1 ≤ limits.wires → IsBound soc limits (power_bound soc limits limits.power)
power_bounds soc limits some plan good = go limits.power refl where
  go : (o : Option ℕ) → limits.power ≡ o → power_bound soc limits o ≤ plan.cycles
  go None e = omega arith
  go (Some zero) e = omega arith
  go (Some (suc n)) e =
      let each : (c : ℕ) → c < plan.cycles → sum_by (λ t. while_active (power_of limits t) t c) (planned soc plan) ≤ suc n =
      λ c l. rw sum_by-filter at (rw e at (good Power c)) in
      let both : sum_below (λ c. sum_by (λ t. while_active (power_of limits t) t c) (planned soc plan)) plan.cycles ≡ sum_by (λ t. sum_below (while_active (power_of limits t) t) plan.cycles) (planned soc plan) =
      sum_below-sum_by (λ t c. while_active (power_of limits t) t c) (planned soc plan) plan.cycles in
      let few : sum_below (λ c. sum_by (λ t. while_active (power_of limits t) t c) (planned soc plan)) plan.cycles ≤ plan.cycles * suc n = sum_below-le (λ c. sum_by (λ t. while_active (power_of limits t) t c) (planned soc plan)) (suc n) plan.cycles each in
      quotient_up-le (least_energy soc limits) plan.cycles (suc n) (omega arith) (omega (arith, energy_le soc limits plan good some))

-- ---- all widths together

widths_up_to : (soc : SocValue) (limits : LimitsValue) (plan : PlanValue) → IsGood soc limits plan → (n : ℕ) → n ≤ length (widths plan) → sum (take n (widths plan)) ≤ limits.wires
widths_up_to soc limits plan good zero h = omega arith
widths_up_to soc limits plan good (suc n) h =
    let q = from_map (λ (b : BusValue). b.width) plan.buses n (get_or (widths plan) n 0) (slice_get-get_or (widths plan) n 0 (omega arith)) in
    let fits = good Widths n q.0 q.1 in
    let front : sum (take n (widths plan)) ≡ sum_by (λ (b : BusValue). b.width) (take n plan.buses) = ap sum (take-map (λ (b : BusValue). b.width) n plan.buses) ∙ sum-map (λ (b : BusValue). b.width) (take n plan.buses) in
    let more = rw add-one at (sum_by_more (λ x. x) (widths plan) n 0 (omega arith)) in
    omega (arith, more, fits.1, q.2)

pub widths_fit : (soc : SocValue) (limits : LimitsValue) (plan : PlanValue) → IsGood soc limits plan → sum (widths plan) ≤ limits.wires
widths_fit soc limits plan good = rw (take_all (length (widths plan)) (widths plan) (omega arith)) at (widths_up_to soc limits plan good (length (widths plan)) (omega arith))

-- ---- at every cycle the buses in use have at most all wires

pub on_wires : ℕ → PlannedTest → Bool
on_wires c t = t.tam && is_active c t

-- on one bus at most one test is active
one_on_bus : (soc : SocValue) (limits : LimitsValue) (plan : PlanValue) → IsGood soc limits plan → (c b : ℕ) → sum_by (λ t. one_if (on_wires c t && nat_eq t.bus b)) (planned soc plan) ≤ 1
unfolding on_wires
one_on_bus soc limits plan good c b = at_most_one (λ t. on_wires c t && nat_eq t.bus b) (planned soc plan) (λ i j t u order at at' p q.
    let p' = and_parts (on_wires c t) (nat_eq t.bus b) p in
    let q' = and_parts (on_wires c u) (nat_eq u.bus b) q in
    let t' = and_parts t.tam (is_active c t) p'.0 in
    let u' = and_parts u.tam (is_active c u) q'.0 in
    good Wires i j c t u (record { first = at; second = at'; order = order; related = (t'.0, u'.0, eqb-true t.bus b p'.1 ∙ sym (eqb-true u.bus b q'.1)); meet = (active_is c t t'.1, active_is c u u'.1) }))

pub wires_at : (soc : SocValue) (limits : LimitsValue) (plan : PlanValue) → IsGood soc limits plan → (c : ℕ) → sum_by (λ t. if on_wires c t then t.width else 0) (planned soc plan) ≤ limits.wires
wires_at soc limits plan good c =
    let ws : List ℕ = widths plan in
    let by_bus : sum_by (λ t. if on_wires c t then t.width else 0) (planned soc plan) ≤ sum_by (λ t. sum_below (λ b. if on_wires c t && nat_eq t.bus b then slice_index (widths plan) b else 0) (length (widths plan))) (planned soc plan) =
    sum_by-le_at (λ t. if on_wires c t then t.width else 0) (λ t. sum_below (λ b. if on_wires c t && nat_eq t.bus b then slice_index (widths plan) b else 0) (length (widths plan))) (planned soc plan) (λ i t at. each t (on_bus soc plan i t at).wide (cases_Bool (on_wires c t)) (cases_lt t.bus (length (widths plan)))) in
    let swap : sum_below (λ b. sum_by (λ t. if on_wires c t && nat_eq t.bus b then slice_index (widths plan) b else 0) (planned soc plan)) (length (widths plan)) ≡ sum_by (λ t. sum_below (λ b. if on_wires c t && nat_eq t.bus b then slice_index (widths plan) b else 0) (length (widths plan))) (planned soc plan) =
    sum_below-sum_by (λ t b. if on_wires c t && nat_eq t.bus b then slice_index (widths plan) b else 0) (planned soc plan) (length (widths plan)) in
    let few : sum_below (λ b. sum_by (λ t. if on_wires c t && nat_eq t.bus b then slice_index (widths plan) b else 0) (planned soc plan)) (length (widths plan)) ≤ sum_below (slice_index (widths plan)) (length (widths plan)) =
    sum_below-le_by (λ b. sum_by (λ t. if on_wires c t && nat_eq t.bus b then slice_index (widths plan) b else 0) (planned soc plan)) (slice_index (widths plan)) (length (widths plan)) (λ b l. one_bus b) in
    let all : sum_below (slice_index (widths plan)) (length (widths plan)) ≡ sum (take (length (widths plan)) (widths plan)) = sum_below-indices (widths plan) (length (widths plan)) (omega arith) in
    let fit : sum (take (length (widths plan)) (widths plan)) ≤ limits.wires = widths_up_to soc limits plan good (length (widths plan)) (omega arith) in
    omega arith
  where
    each : (t : PlannedTest) → t.width ≡ slice_index (widths plan) t.bus → (on_wires c t ≡ true) ⊎ (on_wires c t ≡ false) → (t.bus < length (widths plan)) ⊎ (length (widths plan) ≤ t.bus) → (if on_wires c t then t.width else 0) ≤ sum_below (λ b. if on_wires c t && nat_eq t.bus b then slice_index (widths plan) b else 0) (length (widths plan))
    each t wide (inr no') _ = rw no' (omega arith)
    each t wide (inl yes') (inl within) = rw (yes', wide) (le-indicator (slice_index (widths plan)) t.bus (length (widths plan)) within)
    each t wide (inl yes') (inr past) =
        let none : t.width ≡ 0 = wide ∙ get_or_past (widths plan) t.bus 0 past in
        rw (yes', none) (omega arith)

    one_bus : (b : ℕ) → sum_by (λ t. if on_wires c t && nat_eq t.bus b then slice_index (widths plan) b else 0) (planned soc plan) ≤ slice_index (widths plan) b
    one_bus b =
        let one : sum_by (λ t. one_if (on_wires c t && nat_eq t.bus b)) (planned soc plan) ≤ 1 = one_on_bus soc limits plan good c b in
        let product : slice_index (widths plan) b * sum_by (λ t. one_if (on_wires c t && nat_eq t.bus b)) (planned soc plan) ≤ slice_index (widths plan) b * 1 = mul-le-mul_left (slice_index (widths plan) b) one in
        omega (arith, sum_by-constant (λ t. on_wires c t && nat_eq t.bus b) (slice_index (widths plan) b) (planned soc plan))

-- all wires that tests take over all cycles
pub total_area : (soc : SocValue) (limits : LimitsValue) (plan : PlanValue) → IsGood soc limits plan → sum_by (λ t. if t.tam then t.width * length t.operations else 0) (planned soc plan) ≤ plan.cycles * limits.wires
unfolding on_wires
total_area soc limits plan good =
    let few : sum_below (λ c. sum_by (λ t. if on_wires c t then t.width else 0) (planned soc plan)) plan.cycles ≤ plan.cycles * limits.wires =
    sum_below-le (λ c. sum_by (λ t. if on_wires c t then t.width else 0) (planned soc plan)) limits.wires plan.cycles (λ c l. wires_at soc limits plan good c) in
    let swap : sum_below (λ c. sum_by (λ t. if on_wires c t then t.width else 0) (planned soc plan)) plan.cycles ≡ sum_by (λ t. sum_below (λ c. if on_wires c t then t.width else 0) plan.cycles) (planned soc plan) =
    sum_below-sum_by (λ t c. if on_wires c t then t.width else 0) (planned soc plan) plan.cycles in
    let each : sum_by (λ t. if t.tam then t.width * length t.operations else 0) (planned soc plan) ≤ sum_by (λ t. sum_below (λ c. if on_wires c t then t.width else 0) plan.cycles) (planned soc plan) =
    sum_by-le_at (λ t. if t.tam then t.width * length t.operations else 0) (λ t. sum_below (λ c. if on_wires c t then t.width else 0) plan.cycles) (planned soc plan) (λ i t at. area_of t (end-le-cycles soc limits plan good i t at) (cases_Bool t.tam)) in
    omega arith
  where
    area_of : (t : PlannedTest) → end_of t ≤ plan.cycles → (t.tam ≡ true) ⊎ (t.tam ≡ false) → (if t.tam then t.width * length t.operations else 0) ≤ sum_below (λ c. if t.tam && is_active c t then t.width else 0) plan.cycles
    area_of t within (inr no') = rw no' (omega arith)
    area_of t within (inl yes') =
        let time : sum_below (while_active (λ r. t.width) t) plan.cycles ≡ length t.operations * t.width = sum_while_active (λ r. t.width) t plan.cycles within ∙ sum_below-const t.width (length t.operations) in
        let same : t.width * length t.operations ≡ length t.operations * t.width = mul_comm t.width (length t.operations) in
        rw yes' (omega (arith, time, same))

-- ---- Area

-- the width of the bus of a module
abbrev pub bus_width : PlanValue → ModuleValue → ℕ
bus_width plan m = slice_index (widths plan) (bus_place m.number 0 plan.buses)

pub planned_bus_width : (plan : PlanValue) (l : LiveTest) → (planned_test plan l.place l.core l.test).width ≡ bus_width plan l.core
unfolding planned_test
planned_bus_width plan l = refl

pub some_width : (soc : SocValue) (limits : LimitsValue) (plan : PlanValue) → IsGood soc limits plan → (i : ℕ) (t : PlannedTest) (o : Origin soc plan i t) → o.l.test.tam ≡ true → 1 ≤ t.width
some_width soc limits plan good i t o tam =
    let v : Wrapped plan o.l.core o.l.test = wrapped soc limits plan good o.l.place o.n o.l.core o.l.test o.module_at o.test_at tam in
    let chains : length t.chains ≡ length (chains_of plan o.l.core o.l.test) = ap (λ (t : PlannedTest). length t.chains) (sym o.is) ∙ ap length (planned_chains plan o.l.place o.l.core o.l.test) in
    let long : length (chains_of plan o.l.core o.l.test) ≡ length v.w.chains = ap length v.chains_are ∙ length-dealt (scan_lengths o.l.core o.l.test.scan) 0 0 v.w.chains in
    let some : 1 ≤ length v.w.chains = ((good Wrappers).0 v.n v.w v.at).some_chain in
    let fit = fit_at soc limits plan good i t o in
    omega (arith, fit.0)

area_at : (soc : SocValue) (limits : LimitsValue) (plan : PlanValue) → IsGood soc limits plan → 1 ≤ limits.wires → (p : ℕ) (m : ModuleValue) → slice_get soc.modules p ≡ Some m → (v : ℕ) → v ≡ max 1 (bus_width plan m) →
    (i : ℕ) (t : PlannedTest) (o : Origin soc plan i t) → (o.l.test.tam && is_of p o.l ≡ true) ⊎ (o.l.test.tam && is_of p o.l ≡ false) →
    (if o.l.test.tam && is_of p o.l then v * lower v o.l else 0) ≤ (if t.tam && nat_eq t.place p then t.width * length t.operations else 0)
area_at soc limits plan good some p m at v is i t o (inr no') = rw no' (omega arith)
area_at soc limits plan good some p m at v is i t o (inl yes') =
    let both = and_parts o.l.test.tam (is_of p o.l) yes' in
    let place : o.l.place ≡ p = eqb-true o.l.place p both.1 in
    let found : slice_get soc.modules o.l.place ≡ Some m = rw place at in
    let found' : slice_get soc.modules o.l.place ≡ Some o.l.core = o.module_at in
    let core : o.l.core ≡ m = cc in
    let width : t.width ≡ bus_width plan m = ap (λ (t : PlannedTest). t.width) (sym o.is) ∙ planned_bus_width plan o.l ∙ ap (bus_width plan) core in
    let wide : 1 ≤ t.width = some_width soc limits plan good i t o both.0 in
    let same : v ≡ t.width = omega arith in
    let fit = fit_at soc limits plan good i t o in
    let long : lower v o.l ≤ length t.operations = planned_lower soc limits plan good v i (omega arith) t o (omega (arith, fit.0)) in
    let product : v * lower v o.l ≤ t.width * length t.operations = mul-le-mul (omega arith) long in
    let tam : t.tam ≡ true = ap (λ (t : PlannedTest). t.tam) (sym o.is) ∙ planned_tam plan o.l.place o.l.core o.l.test ∙ both.0 in
    let here : nat_eq t.place p ≡ true = sym (place_says soc plan p i t o) ∙ both.1 in
    rw (yes', tam, here) product

module_area-le : (soc : SocValue) (limits : LimitsValue) (plan : PlanValue) → IsGood soc limits plan → 1 ≤ limits.wires → (p : ℕ) (m : ModuleValue) → slice_get soc.modules p ≡ Some m →
    module_area soc limits.wires p ≤ sum_by (λ t. if t.tam && nat_eq t.place p then t.width * length t.operations else 0) (planned soc plan)
module_area-le soc limits plan good some p m at =
    let v : ℕ = max 1 (bus_width plan m) in
    let fits : bus_width plan m ≤ limits.wires = width_fits soc limits plan good (bus_place m.number 0 plan.buses) in
    let least : module_area soc limits.wires p ≤ max 1 (bus_width plan m) * lower_tam_time soc p (max 1 (bus_width plan m)) = least-le (λ v. v * lower_tam_time soc p v) limits.wires (max 1 (bus_width plan m)) (omega arith) (omega arith) in
    let in' : max 1 (bus_width plan m) * lower_tam_time soc p (max 1 (bus_width plan m)) ≡ sum_by (λ l. if l.test.tam && is_of p l then max 1 (bus_width plan m) * lower (max 1 (bus_width plan m)) l else 0) (live_tests soc) =
    sum_by-times (λ (l : LiveTest). l.test.tam && is_of p l) (lower (max 1 (bus_width plan m))) (max 1 (bus_width plan m)) (live_tests soc) in
    let all : sum_by (λ l. if l.test.tam && is_of p l then max 1 (bus_width plan m) * lower (max 1 (bus_width plan m)) l else 0) (live_tests soc) ≤ sum_by (λ t. if t.tam && nat_eq t.place p then t.width * length t.operations else 0) (planned soc plan) =
    live-le-planned soc plan (λ l. if l.test.tam && is_of p l then max 1 (bus_width plan m) * lower (max 1 (bus_width plan m)) l else 0) (λ t. if t.tam && nat_eq t.place p then t.width * length t.operations else 0)
    (λ i t o. area_at soc limits plan good some p m at (max 1 (bus_width plan m)) refl i t o (cases_Bool (o.l.test.tam && is_of p o.l))) in
    omega arith

pub area_bounds : (soc : SocValue) (limits : LimitsValue) → 1 ≤ limits.wires → IsBound soc limits (area_bound soc limits.wires)
area_bounds soc limits some plan good =
    let by_module : sum_below (module_area soc limits.wires) (length soc.modules) ≤ sum_below (λ p. sum_by (λ t. if t.tam && nat_eq t.place p then t.width * length t.operations else 0) (planned soc plan)) (length soc.modules) =
    sum_below-le_by (module_area soc limits.wires) (λ p. sum_by (λ t. if t.tam && nat_eq t.place p then t.width * length t.operations else 0) (planned soc plan)) (length soc.modules) (λ p l. at_place p (slice_get_cases soc.modules p).1 l) in
    let swap : sum_below (λ p. sum_by (λ t. if t.tam && nat_eq t.place p then t.width * length t.operations else 0) (planned soc plan)) (length soc.modules) ≡ sum_by (λ t. sum_below (λ p. if t.tam && nat_eq t.place p then t.width * length t.operations else 0) (length soc.modules)) (planned soc plan) =
    sum_below-sum_by (λ t p. if t.tam && nat_eq t.place p then t.width * length t.operations else 0) (planned soc plan) (length soc.modules) in
    let once : sum_by (λ t. sum_below (λ p. if t.tam && nat_eq t.place p then t.width * length t.operations else 0) (length soc.modules)) (planned soc plan) ≤ sum_by (λ t. if t.tam then t.width * length t.operations else 0) (planned soc plan) =
    sum_by-le_at (λ t. sum_below (λ p. if t.tam && nat_eq t.place p then t.width * length t.operations else 0) (length soc.modules)) (λ t. if t.tam then t.width * length t.operations else 0) (planned soc plan) (λ i t at. each t (cases_Bool t.tam)) in
    quotient_up-le (sum_below (module_area soc limits.wires) (length soc.modules)) plan.cycles limits.wires some (omega (arith, total_area soc limits plan good))
  where
    at_place : (p : ℕ) → ((x : ModuleValue) × (p < length soc.modules) × (slice_get soc.modules p ≡ Some x) × (get_or soc.modules p x ≡ x)) ⊎ ((length soc.modules ≤ p) × (slice_get soc.modules p ≡ None)) → p < length soc.modules → module_area soc limits.wires p ≤ sum_by (λ t. if t.tam && nat_eq t.place p then t.width * length t.operations else 0) (planned soc plan)
    at_place p (inl m) h = module_area-le soc limits plan good some p m.0 m.2
    at_place p (inr past) h = absurd (omega (arith, past.0))

    each : (t : PlannedTest) → (t.tam ≡ true) ⊎ (t.tam ≡ false) → sum_below (λ p. if t.tam && nat_eq t.place p then t.width * length t.operations else 0) (length soc.modules) ≤ (if t.tam then t.width * length t.operations else 0)
    each t (inl yes') = rw yes' (indicator-le (λ p. t.width * length t.operations) t.place (length soc.modules))
    each t (inr no') = rw (no', sum_below-zero (length soc.modules)) (omega arith)
