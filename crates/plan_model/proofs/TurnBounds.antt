-- Tests that take turns: the values of Module, Pair and Chain certificates bound every good plan.
use Rattle.std.proofs.Common.{◌≡◌, ℕ, ◌+◌, ◌≤◌, ◌<◌, Bool, true, false, List, [], ◌∷◌, length, get_or, map, refl, ap, ◌∙◌, sym, arith, inl, inr, ◌⊎◌}
use Rattle.std.specs.Prelude.{slice_get, slice_index, nat_eq, ◌||◌, if◌then◌else◌}
use Rattle.std.specs.List.{sum_by, Contains}
use Rattle.std.proofs.lemmas.Bool.{cases_lt, cases_Bool, eqb-true, leb-true, or_cases}
use Rattle.std.proofs.lemmas.List.Sums.{sum_by-cons}
use Rattle.std.proofs.lemmas.List.{get_or_past}
use Rattle.std.proofs.lemmas.Option.{slice_get-get_or, slice_get-map}
use Rattle.soc_model.specs.declared.Test.{Test}
use Rattle.soc_model.specs.Chips.{ModuleValue, SocValue, LiveTest, IsParent, is_live, live_tests, id_of}
use Rattle.plan_model.specs.Cells.{chain_cells, IsProper, scan_lengths}
use Rattle.plan_model.specs.Plans.{BusValue, WrapperValue, PlanValue, LimitsValue, PlannedTest, planned, planned_test, chains_of, operations_of, widths, end_of, IsActive}
use Rattle.plan_model.specs.Right.{IsAt}
use Rattle.plan_model.specs.Rules.{IsGood, IsBound, Widths, Proper, Busy, Parents, Cycles, Precedences}
use Rattle.plan_model.specs.Bounds.{lower_time, lower, sum_where, is_of, module_bound, pair_bound}
use Rattle.plan_model.proofs.CertificatesByPlace.{IsChain, AllLive, chain_bound}
use Rattle.plan_model.proofs.SumsOverCycles.{disjoint_bound}
use Rattle.plan_model.proofs.LowerTimes.{lower_time-le}
use Rattle.plan_model.proofs.PlannedTests.{Origin, IsLive, live_at, Wrapped, wrapped}
use Rattle.plan_model.proofs.Lists.{from_filter}
use Rattle.plan_model.proofs.CellOrder.{length-dealt}
use Rattle.plan_model.proofs.TestsInGoodPlans.{planned_fit, on_bus}
use Rattle.plan_model.proofs.Greatest.{le-greatest_at}
use Rattle.plan_model.proofs.GoodPlansRunRight.{planned_place, planned_in_order}
use Rattle.plan_model.proofs.Sums.{sum_by-le_at, sum_by-or}
use Rattle.common_lemmas.proofs.Lists.{from_map, contains_at, sum_map}

-- ---- a planned test takes its lower time

-- any wrapper as good as the one that the plan has
lower_of_wrapper : (plan : PlanValue) (m : ModuleValue) (test : Test) (w : ℕ) (v : WrapperValue) → 1 ≤ test.patterns → 1 ≤ w → test.tam ≡ true → v.scan ≡ test.scan → chains_of plan m test ≡ chain_cells m test.scan v.chains → IsProper m v.scan v.chains → length (chains_of plan m test) ≤ w →
    lower_time m test w ≤ length (operations_of m test (chains_of plan m test))
lower_of_wrapper plan m test w v live some tam mode are proper few =
    let proper' = rw mode at proper in
    let few' = rw (are, length-dealt (scan_lengths m test.scan) 0 0 v.chains) at few in
    rw are (lower_time-le m test v.chains w live some (λ e. (proper', few')))

lower_of_self : (plan : PlanValue) (m : ModuleValue) (test : Test) (w : ℕ) → 1 ≤ test.patterns → 1 ≤ w → test.tam ≡ false → lower_time m test w ≤ length (operations_of m test (chains_of plan m test))
lower_of_self plan m test w live some no' =
    let h = rw no' at (lower_time-le m test [] w live some (λ e. absurd cc)) in
    rw no' h

pub planned_chains : (plan : PlanValue) (place : ℕ) (m : ModuleValue) (test : Test) → (planned_test plan place m test).chains ≡ chains_of plan m test
unfolding planned_test
planned_chains plan place m test = refl

planned_operations : (plan : PlanValue) (place : ℕ) (m : ModuleValue) (test : Test) → (planned_test plan place m test).operations ≡ operations_of m test (chains_of plan m test)
unfolding planned_test
planned_operations plan place m test = refl

pub planned_lower : (soc : SocValue) (limits : LimitsValue) (plan : PlanValue) → IsGood soc limits plan → (w i : ℕ) → 1 ≤ w → (t : PlannedTest) (o : Origin soc plan i t) → length t.chains ≤ w → lower_time o.l.core o.l.test w ≤ length t.operations
planned_lower soc limits plan good w i some t o few =
    let chains : t.chains ≡ chains_of plan o.l.core o.l.test = ap (λ (t : PlannedTest). t.chains) (sym o.is) ∙ planned_chains plan o.l.place o.l.core o.l.test in
    let operations : t.operations ≡ operations_of o.l.core o.l.test (chains_of plan o.l.core o.l.test) = ap (λ (t : PlannedTest). t.operations) (sym o.is) ∙ planned_operations plan o.l.place o.l.core o.l.test in
    let live : 1 ≤ o.l.test.patterns = leb-true 1 o.l.test.patterns ((from_filter is_live o.l.core.tests o.n o.l.test o.test_at).2) in
    let few' : length (chains_of plan o.l.core o.l.test) ≤ w = rw chains at few in
    rw operations (go live few' (cases_Bool o.l.test.tam))
  where
    go : 1 ≤ o.l.test.patterns → length (chains_of plan o.l.core o.l.test) ≤ w → (o.l.test.tam ≡ true) ⊎ (o.l.test.tam ≡ false) → lower_time o.l.core o.l.test w ≤ length (operations_of o.l.core o.l.test (chains_of plan o.l.core o.l.test))
    go live few' (inr no') = lower_of_self plan o.l.core o.l.test w live some no'
    go live few' (inl yes') =
        let v : Wrapped plan o.l.core o.l.test = wrapped soc limits plan good o.l.place o.n o.l.core o.l.test o.module_at o.test_at yes' in
        lower_of_wrapper plan o.l.core o.l.test w v.w live some yes' v.scan_is v.chains_are (good Proper v.n v.w v.at o.l.place o.l.core o.module_at (sym v.module_is)) few'

-- a bus has at most all wires
pub width_fits : (soc : SocValue) (limits : LimitsValue) (plan : PlanValue) → IsGood soc limits plan → (b : ℕ) → slice_index (widths plan) b ≤ limits.wires
width_fits soc limits plan good b = go (cases_lt b (length (widths plan))) where
  go : (b < length (widths plan)) ⊎ (length (widths plan) ≤ b) → get_or (widths plan) b 0 ≤ limits.wires
  go (inr past) = rw (get_or_past (widths plan) b 0 past) (omega arith)
  go (inl within) =
      let q = from_map (λ (b : BusValue). b.width) plan.buses b (get_or (widths plan) b 0) (slice_get-get_or (widths plan) b 0 within) in
      let fits = good Widths b q.0 q.1 in
      omega (arith, fits.1, q.2)

pub origin_at : (soc : SocValue) (plan : PlanValue) (i : ℕ) (t : PlannedTest) → Origin soc plan i t → IsAt (planned soc plan) i t
unfolding planned
origin_at soc plan i t o =
    let found : slice_get (map (λ (l : LiveTest). planned_test plan l.place l.core l.test) (live_tests soc)) i ≡ _ = slice_get-map (λ (l : LiveTest). planned_test plan l.place l.core l.test) (live_tests soc) i in
    found ∙ rw (o.at, o.is) refl

pub fit_at : (soc : SocValue) (limits : LimitsValue) (plan : PlanValue) → IsGood soc limits plan → (i : ℕ) (t : PlannedTest) (o : Origin soc plan i t) → (length t.chains ≤ t.width) × (t.width ≤ limits.wires)
fit_at soc limits plan good i t o =
    let fit = planned_fit soc limits plan good i t o in
    let fit' = rw o.is at fit in
    (fit', rw (on_bus soc plan i t (origin_at soc plan i t o)).wide (width_fits soc limits plan good t.bus))

-- ---- sums over the live tests and over the planned tests

-- the sum of `f` over live tests is at most that of `g` over planned ones
pub live-le-planned : (soc : SocValue) (plan : PlanValue) (f : LiveTest → ℕ) (g : PlannedTest → ℕ) → ((i : ℕ) (t : PlannedTest) (o : Origin soc plan i t) → f o.l ≤ g t) → sum_by f (live_tests soc) ≤ sum_by g (planned soc plan)
unfolding planned
live-le-planned soc plan f g h =
    let split : sum_by g (map (λ (l : LiveTest). planned_test plan l.place l.core l.test) (live_tests soc)) ≡ sum_by (λ (l : LiveTest). g (planned_test plan l.place l.core l.test)) (live_tests soc) = sum_map g (λ (l : LiveTest). planned_test plan l.place l.core l.test) (live_tests soc) in
    rw split (sum_by-le_at f (λ (l : LiveTest). g (planned_test plan l.place l.core l.test)) (live_tests soc) (λ i l at.
    let o : IsLive soc.modules 0 l = live_at soc.modules 0 i l at in
    let same : o.up ≡ l.place = omega (arith, o.place_is) in
    h i (planned_test plan l.place l.core l.test) (record { l = l; at = at; n = o.n; module_at = rw same at o.module_at; test_at = o.test_at; is = refl })))

-- ---- tests that never meet

-- `q` of a live test, said of planned tests
pub Says : (soc : SocValue) (plan : PlanValue) → (LiveTest → Bool) → (PlannedTest → Bool) → Type 0
Says soc plan p q = (i : ℕ) (t : PlannedTest) (o : Origin soc plan i t) → p o.l ≡ q t

pub end-le-cycles : (soc : SocValue) (limits : LimitsValue) (plan : PlanValue) → IsGood soc limits plan → (i : ℕ) (t : PlannedTest) → IsAt (planned soc plan) i t → end_of t ≤ plan.cycles
end-le-cycles soc limits plan good i t at = omega (arith, le-greatest_at end_of (planned soc plan) i t at, good Cycles)

pub apart_bound : (soc : SocValue) (limits : LimitsValue) (plan : PlanValue) → IsGood soc limits plan → 1 ≤ limits.wires → (p : LiveTest → Bool) (q : PlannedTest → Bool) → Says soc plan p q →
    ((i j c : ℕ) (t u : PlannedTest) → i < j → IsAt (planned soc plan) i t → IsAt (planned soc plan) j u → q t ≡ true → q u ≡ true → IsActive t c → IsActive u c → ⊥) → sum_where p (lower limits.wires) soc ≤ plan.cycles
unfolding Says
apart_bound soc limits plan good some p q says never =
    let few : sum_by (λ t. if q t then length t.operations else 0) (planned soc plan) ≤ plan.cycles = disjoint_bound q (planned soc plan) plan.cycles never (λ i t at. end-le-cycles soc limits plan good i t at) in
    let lowers : sum_where p (lower limits.wires) soc ≤ sum_by (λ t. if q t then length t.operations else 0) (planned soc plan) =
    live-le-planned soc plan (λ l. if p l then lower limits.wires l else 0) (λ t. if q t then length t.operations else 0) (λ i t o. each i t o (says i t o) (cases_Bool (q t))) in
    omega arith
  where
    each : (i : ℕ) (t : PlannedTest) (o : Origin soc plan i t) → p o.l ≡ q t → (q t ≡ true) ⊎ (q t ≡ false) → (if p o.l then lower limits.wires o.l else 0) ≤ (if q t then length t.operations else 0)
    each i t o same (inl yes') =
        let fit = fit_at soc limits plan good i t o in
        rw (same, yes') (planned_lower soc limits plan good limits.wires i some t o (omega (arith, fit.0, fit.1)))
    each i t o same (inr no') = rw (same, no') (omega arith)

-- ---- Module and Pair

pub place_says : (soc : SocValue) (plan : PlanValue) (place : ℕ) (i : ℕ) (t : PlannedTest) (o : Origin soc plan i t) → nat_eq o.l.place place ≡ nat_eq t.place place
place_says soc plan place i t o = ap (λ v. nat_eq v place) (sym (planned_place plan o.l.place o.l.core o.l.test) ∙ ap (λ (t : PlannedTest). t.place) o.is)

pub module_bounds : (soc : SocValue) (limits : LimitsValue) (place : ℕ) → 1 ≤ limits.wires → IsBound soc limits (module_bound soc limits.wires place)
unfolding Says
module_bounds soc limits place some plan good =
    apart_bound soc limits plan good some (is_of place) (λ t. nat_eq t.place place) (λ i t o. place_says soc plan place i t o)
    (λ i j c t u order at at' p q active active'.
    let same : t.place ≡ u.place = eqb-true t.place place p ∙ sym (eqb-true u.place place q) in
    good Busy i j c t u (record { first = at; second = at'; order = order; related = same; meet = (active, active') }))

pub pair_bounds : (soc : SocValue) (limits : LimitsValue) (parent place : ℕ) → 1 ≤ limits.wires → IsParent soc.modules parent place → IsBound soc limits (pair_bound soc limits.wires parent place)
unfolding Says
pair_bounds soc limits parent place some is plan good =
    let earlier : parent < place = is.earlier in
    let joined : module_bound soc limits.wires parent + module_bound soc limits.wires place ≡ sum_where (λ l. is_of parent l || is_of place l) (lower limits.wires) soc =
    sum_by-or (is_of parent) (is_of place) (lower limits.wires) (live_tests soc) (λ l a b. omega (arith, eqb-true l.place parent a, eqb-true l.place place b)) in
    rw joined (apart_bound soc limits plan good some (λ l. is_of parent l || is_of place l) (λ t. nat_eq t.place parent || nat_eq t.place place)
    (λ i t o. let a : nat_eq o.l.place parent ≡ nat_eq t.place parent = place_says soc plan parent i t o in let b : nat_eq o.l.place place ≡ nat_eq t.place place = place_says soc plan place i t o in rw (a, b) refl)
    (λ i j c t u order at at' p q active active'. never i j c t u order at at' (or_cases (nat_eq t.place parent) (nat_eq t.place place) p) (or_cases (nat_eq u.place parent) (nat_eq u.place place) q) active active'))
  where
    busy : (i j c : ℕ) (t u : PlannedTest) → i < j → IsAt (planned soc plan) i t → IsAt (planned soc plan) j u → t.place ≡ u.place → IsActive t c → IsActive u c → ⊥
    busy i j c t u order at at' same active active' = good Busy i j c t u (record { first = at; second = at'; order = order; related = same; meet = (active, active') })

    never : (i j c : ℕ) (t u : PlannedTest) → i < j → IsAt (planned soc plan) i t → IsAt (planned soc plan) j u → (nat_eq t.place parent ≡ true) ⊎ (nat_eq t.place place ≡ true) → (nat_eq u.place parent ≡ true) ⊎ (nat_eq u.place place ≡ true) → IsActive t c → IsActive u c → ⊥
    never i j c t u order at at' (inl p) (inl q) active active' = busy i j c t u order at at' (eqb-true t.place parent p ∙ sym (eqb-true u.place parent q)) active active'
    never i j c t u order at at' (inr p) (inr q) active active' = busy i j c t u order at at' (eqb-true t.place place p ∙ sym (eqb-true u.place place q)) active active'
    never i j c t u order at at' (inl p) (inr q) active active' =
        good Parents i j c t u (record { first = at; second = at'; order = order; related = rw (eqb-true t.place parent p, eqb-true u.place place q) is; meet = (active, active') })
    never i j c t u order at at' (inr p) (inl q) active active' =
        let earlier : parent < place = is.earlier in
        let a : t.place ≡ place = eqb-true t.place place p in
        let b : u.place ≡ parent = eqb-true u.place parent q in
        let wrong : j < i = planned_in_order soc plan j i u t at' at (omega arith) in
        omega arith

-- ---- Chain

-- a live test as the plan places it
abbrev pub plan_of : PlanValue → LiveTest → PlannedTest
plan_of plan l = planned_test plan l.place l.core l.test

live_planned : (soc : SocValue) (plan : PlanValue) (l : LiveTest) → Contains (live_tests soc) l → (i : ℕ) × Origin soc plan i (plan_of plan l) × IsAt (planned soc plan) i (plan_of plan l)
unfolding planned
live_planned soc plan l h =
    let k = contains_at (live_tests soc) l h in
    let o : IsLive soc.modules 0 l = live_at soc.modules 0 k.0 l k.1 in
    let same : o.up ≡ l.place = omega (arith, o.place_is) in
    (k.0, record { l = l; at = k.1; n = o.n; module_at = rw same at o.module_at; test_at = o.test_at; is = refl }, slice_get-map (λ (l : LiveTest). planned_test plan l.place l.core l.test) (live_tests soc) k.0 ∙ rw k.1 refl)

planned_id : (plan : PlanValue) (l : LiveTest) → (plan_of plan l).id ≡ id_of l
unfolding planned_test
planned_id plan l = refl

live_lower : (soc : SocValue) (limits : LimitsValue) (plan : PlanValue) → IsGood soc limits plan → 1 ≤ limits.wires → (l : LiveTest) → Contains (live_tests soc) l → lower limits.wires l ≤ length (plan_of plan l).operations
unfolding live_planned
live_lower soc limits plan good some l live =
    let o = live_planned soc plan l live in
    let fit = fit_at soc limits plan good o.0 (plan_of plan l) o.1 in
    planned_lower soc limits plan good limits.wires o.0 some (plan_of plan l) o.1 (omega (arith, fit.0, fit.1))

-- a precedence keeps the second test behind the first
live_order : (soc : SocValue) (limits : LimitsValue) (plan : PlanValue) → IsGood soc limits plan → (l next : LiveTest) → Contains (live_tests soc) l → Contains (live_tests soc) next → Contains limits.before (id_of l, id_of next) → end_of (plan_of plan l) ≤ (plan_of plan next).start
live_order soc limits plan good l next live live' before =
    let o = live_planned soc plan l live in
    let o' = live_planned soc plan next live' in
    let p = contains_at limits.before (id_of l, id_of next) before in
    good Precedences p.0 (id_of l, id_of next) p.1 o.0 o'.0 (plan_of plan l) (plan_of plan next) o.2 o'.2 (rw (planned_id plan l, planned_id plan next) refl)

chain_from : (soc : SocValue) (limits : LimitsValue) (plan : PlanValue) → IsGood soc limits plan → 1 ≤ limits.wires → (l : LiveTest) (ls : List LiveTest) → AllLive soc (l ∷ ls) → IsChain limits (l ∷ ls) → (plan_of plan l).start + chain_bound limits.wires (l ∷ ls) ≤ plan.cycles
chain_from soc limits plan good some l [] live chain =
    let o = live_planned soc plan l live.0 in
    let long : lower limits.wires l ≤ length (plan_of plan l).operations = live_lower soc limits plan good some l live.0 in
    let within : end_of (plan_of plan l) ≤ plan.cycles = end-le-cycles soc limits plan good o.0 (plan_of plan l) o.2 in
    omega arith
chain_from soc limits plan good some l (next ∷ ls) live chain =
    let long : lower limits.wires l ≤ length (plan_of plan l).operations = live_lower soc limits plan good some l live.0 in
    let order : end_of (plan_of plan l) ≤ (plan_of plan next).start = live_order soc limits plan good l next live.0 (live.1).0 chain.0 in
    let ih : (plan_of plan next).start + chain_bound limits.wires (next ∷ ls) ≤ plan.cycles = chain_from soc limits plan good some next ls live.1 chain.1 in
    let split : chain_bound limits.wires (l ∷ next ∷ ls) ≡ lower limits.wires l + chain_bound limits.wires (next ∷ ls) = sum_by-cons (lower limits.wires) l (next ∷ ls) in
    omega arith

pub chain_bounds : (soc : SocValue) (limits : LimitsValue) (ls : List LiveTest) → 1 ≤ limits.wires → AllLive soc ls → IsChain limits ls → IsBound soc limits (chain_bound limits.wires ls)
chain_bounds soc limits [] some live chain plan good = omega arith
chain_bounds soc limits (l ∷ ls) some live chain plan good = omega (arith, chain_from soc limits plan good some l ls live chain)
