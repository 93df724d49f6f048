-- Each test over the wires of a good plan has its rectangle.
use Rattle.std.proofs.Common.{◌≡◌, ℕ, zero, suc, ◌+◌, ◌≤◌, Bool, true, false, Option, Some, List, [], ◌∷◌, ◌++◌, length, map, refl, sym, ap, ◌∙◌, subst, arith, slice_get, slice_index, filter}
use Rattle.soc_model.specs.Chips.{SocValue}
use Rattle.plan_model.specs.Plans.{PlanValue, LimitsValue, PlannedTest, planned, planned_test, widths, bus_place}
use Rattle.plan_model.specs.Right.{IsAt}
use Rattle.plan_model.specs.Rules.{IsGood, Wrappers}
use Rattle.plan_model.proofs.PlannedTests.{Origin, Wrapped, origin, wrapped}
use Rattle.plan_model.proofs.TestsInGoodPlans.{planned_tam}
use Rattle.live_tests.specs.declared.placed.PlacedTest.{PlacedTest}
use Rattle.live_tests.specs.Placed.{bus_over, placed_of, placed_tests}
use Rattle.picture.specs.declared.panels.Drawn.{Drawn}
use Rattle.picture.specs.Laws.{AreDrawn}
use Rattle.picture.specs.Rectangles.{bus_wires, drawn_test, is_wired, over_bus, over_wires, wired, wires_from}

-- a bus that has wires is there
wires_there : (first : ℕ) (ws : List ℕ) (b : ℕ) → 1 ≤ slice_index ws b → (r : ℕ × ℕ) × (slice_get (wires_from first ws) b ≡ Some r)
wires_there first [] b some = absurd (omega (arith, some))
wires_there first (w ∷ ws) zero some = ((first, first + w), refl)
wires_there first (w ∷ ws) (suc b) some = wires_there (first + w) ws b some

planned_bus : (soc : SocValue) (plan : PlanValue) (i : ℕ) (t : PlannedTest) → (o : Origin soc plan i t) → bus_place o.l.core.number 0 plan.buses ≡ t.bus
unfolding planned_test
planned_bus soc plan i t o = ap (λ (t : PlannedTest). t.bus) o.is

-- and the bus of a test over the wires has wires
pub bus_wide : (soc : SocValue) (limits : LimitsValue) (plan : PlanValue) → IsGood soc limits plan → (i : ℕ) (t : PlannedTest) → IsAt (planned soc plan) i t → t.tam ≡ true → 1 ≤ slice_index (widths plan) t.bus
bus_wide soc limits plan good i t at tam =
    let o : Origin soc plan i t = origin soc plan i t at in
    let own : o.l.test.tam ≡ true = sym (planned_tam plan o.l.place o.l.core o.l.test) ∙ ap (λ (t : PlannedTest). t.tam) o.is ∙ tam in
    let w : Wrapped plan o.l.core o.l.test = wrapped soc limits plan good o.l.place o.n o.l.core o.l.test o.module_at o.test_at own in
    let fits = (good Wrappers).0 w.n w.w w.at in
    let on : length (w.w).chains ≤ slice_index (widths plan) (bus_place o.l.core.number 0 plan.buses) = rw w.module_is at fits.on_wires in
    let bus : bus_place o.l.core.number 0 plan.buses ≡ t.bus = planned_bus soc plan i t o in
    subst (λ b. 1 ≤ slice_index (widths plan) b) bus (omega (arith, fits.some_chain, on))

pub bus_there : (soc : SocValue) (limits : LimitsValue) (plan : PlanValue) → IsGood soc limits plan → (i : ℕ) (t : PlannedTest) → IsAt (planned soc plan) i t → t.tam ≡ true → (r : ℕ × ℕ) × (slice_get (bus_wires plan) t.bus ≡ Some r)
bus_there soc limits plan good i t at tam = wires_there 0 (widths plan) t.bus (bus_wide soc limits plan good i t at tam)

-- a placed test with the bus that it has where it is one over the wires
abbrev placed_over : PlannedTest → Bool → PlacedTest
placed_over t b = record { id = t.id; place = t.place; bus = bus_over b t.bus; start = (placed_of t).start; end = (placed_of t).end; power = t.power }

-- what is drawn of one test
over_drawn : (buses : List (ℕ × ℕ)) (t : PlannedTest) (rest : List Drawn) (more : List PlacedTest) (o : Option (ℕ × ℕ)) (r : ℕ × ℕ) → o ≡ Some r → map drawn_test rest ≡ filter is_wired more → map drawn_test (over_wires (placed_over t true) o ++ rest) ≡ placed_over t true ∷ filter is_wired more
over_drawn buses t rest more o r there same = rw there (ap (λ l. placed_over t true ∷ l) same)

one_drawn : (buses : List (ℕ × ℕ)) (t : PlannedTest) (rest : List Drawn) (more : List PlacedTest) → map drawn_test rest ≡ filter is_wired more → (b : Bool) → (b ≡ true → (r : ℕ × ℕ) × (slice_get buses t.bus ≡ Some r)) → map drawn_test (over_bus buses (placed_over t b) (bus_over b t.bus) ++ rest) ≡ filter is_wired (placed_over t b ∷ more)
one_drawn buses t rest more same false there = same
one_drawn buses t rest more same true there = let r = there refl in over_drawn buses t rest more (slice_get buses t.bus) r.0 r.1 same

all_drawn : (buses : List (ℕ × ℕ)) (ts : List PlannedTest) → ((i : ℕ) (t : PlannedTest) → slice_get ts i ≡ Some t → t.tam ≡ true → (r : ℕ × ℕ) × (slice_get buses t.bus ≡ Some r)) → map drawn_test (wired buses (map placed_of ts)) ≡ filter is_wired (map placed_of ts)
all_drawn buses [] there = refl
all_drawn buses (t ∷ ts) there = one_drawn buses t (wired buses (map placed_of ts)) (map placed_of ts) (all_drawn buses ts (λ i u at. there (suc i) u at)) t.tam (there 0 t refl)

pub tests_drawn : (soc : SocValue) (limits : LimitsValue) (plan : PlanValue) → IsGood soc limits plan → AreDrawn (wired (bus_wires plan) (placed_tests soc plan)) (placed_tests soc plan)
tests_drawn soc limits plan good = all_drawn (bus_wires plan) (planned soc plan) (bus_there soc limits plan good)
