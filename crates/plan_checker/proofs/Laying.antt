-- The placed tests of a plan whose buses have passed: where their ends are noted, and that parents come first.
use Rattle.std.proofs.Common.{◌≡◌, ℕ, zero, suc, ◌+◌, ◌≤◌, ◌<◌, Bool, true, false, Some, List, [], ◌∷◌, length, get_or, take, ap, arith, inl, inr, slice_index, sum_by}
use Rattle.std.proofs.lemmas.Bool.{cases_Bool}
use Rattle.std.proofs.lemmas.List.Sums.{sum_by_more}
use Rattle.std.proofs.lemmas.Option.{slice_get-get_or, get_or_from_slice_get}
use Rattle.soc_model.specs.Chips.{SocValue, IsParent}
use Rattle.plan_model.specs.declared.TheConstants.{WIRES_MOST}
use Rattle.plan_model.specs.Plans.{BusValue, LimitsValue, PlanValue, PlannedTest, planned, planned_test, bus_place, has_module}
use Rattle.plan_model.specs.Right.{IsAt}
use Rattle.plan_model.specs.Rules.{Each, FitsWires, Widths}
use Rattle.plan_model.specs.SoundLimits.{IsSoundLimits}
use Rattle.plan_model.proofs.PlannedTests.{Origin, origin}
use Rattle.plan_model.proofs.GoodPlansRunRight.{planned_in_order}
use Rattle.live_tests.specs.declared.placed.PlacedTest.{PlacedTest}
use Rattle.plan_checker.specs.declared.meetings.Begin.{Begin}
use Rattle.live_tests.specs.Parents.{HasParentAt, AreParents}
use Rattle.plan_checker.specs.Clashes.{ParentsFirst}
use Rattle.live_tests.specs.Placed.{bus_over, placed_of, placed_tests}
use Rattle.plan_checker.specs.Layout.{IsLayout}
use Rattle.plan_checker.specs.Meetings.{AreBegins, AreSlots}
use Rattle.plan_checker.specs.Stages.{KeptTo}
use Rattle.plan_checker.proofs.Lifting.{place_within}
use Rattle.common_lemmas.proofs.Lists.{from_map}

-- ---- few buses

bus-le : (m place : ℕ) (bs : List BusValue) → bus_place m place bs ≤ place + length bs
bus-le m place [] = omega arith
bus-le m place (b ∷ bs) = elim (cases_Bool (has_module m b)) [
  | inl yes' ↦ rw yes' (omega arith)
  | inr no' ↦ rw no' (omega (arith, bus-le m (place + 1) bs))
]

abbrev width_of : BusValue → ℕ
width_of b = b.width

wires_more : (limits : LimitsValue) (buses : List BusValue) (n : ℕ) (d : BusValue) → Each (FitsWires limits) buses → n ≤ length buses → n ≤ sum_by width_of (take n buses)
wires_more limits buses zero d fits within = omega arith
wires_more limits buses (suc n) d fits within =
    let e : n + 1 ≡ suc n = omega arith in
    let more : sum_by width_of (take (n + 1) buses) ≡ sum_by width_of (take n buses) + (get_or buses n d).width = sum_by_more width_of buses n d (omega arith) in
    let one = fits n (get_or buses n d) (slice_get-get_or buses n d (omega arith)) in
    rw (← e) (omega (arith, more, one.0, wires_more limits buses n d fits (omega arith)))

few_buses : (limits : LimitsValue) (buses : List BusValue) → Each (FitsWires limits) buses → length buses ≤ limits.wires
few_buses limits [] fits = omega arith
few_buses limits (b ∷ bs) fits =
    let n = length bs in
    let last = get_or (b ∷ bs) n b in
    let fit = fits n last (slice_get-get_or (b ∷ bs) n b (omega arith)) in
    let enough : n ≤ sum_by width_of (take n (b ∷ bs)) = wires_more limits (b ∷ bs) n b fits (omega arith) in
    omega (arith, fit.0, fit.1, enough)

bus_of : (soc : SocValue) (plan : PlanValue) (i : ℕ) (t : PlannedTest) → IsAt (planned soc plan) i t → t.bus ≤ length plan.buses
unfolding planned_test
bus_of soc plan i t at =
    let o : Origin soc plan i t = origin soc plan i t at in
    let e : (planned_test plan o.l.place o.l.core o.l.test).bus ≡ t.bus = ap (λ (t : PlannedTest). t.bus) o.is in
    omega (arith, e, bus-le o.l.core.number 0 plan.buses)

bus_of_some : (tam : Bool) (bus s : ℕ) → bus_over tam bus ≡ Some s → bus ≡ s
bus_of_some true bus s is = cc
bus_of_some false bus s is = absurd cc

-- ---- the layout

slots_are : (soc : SocValue) (limits : LimitsValue) (plan : PlanValue) (parents : List ℕ) (n : ℕ) → IsSoundLimits soc limits → KeptTo soc limits plan 7 → AreParents soc parents → length parents ≡ length soc.modules → n ≡ length parents + WIRES_MOST + 1 → AreSlots parents (placed_tests soc plan) n
slots_are soc limits plan parents n sound kept are long room i j at =
    let t = from_map placed_of (planned soc plan) i j at in
    let within : (t.0).place < length soc.modules = place_within soc plan i t.0 t.1 in
    let p : HasParentAt soc parents (t.0).place = are (t.0).place within in
    let parent : slice_index parents (t.0).place ≡ p.q = get_or_from_slice_get parents (t.0).place p.q 0 p.at in
    let buses : length plan.buses ≤ limits.wires = few_buses limits plan.buses (kept Widths (omega arith)) in
    let bus : (t.0).bus ≤ length plan.buses = bus_of soc plan i t.0 t.1 in
    rw (← t.2) (record {
      place = omega arith;
      bus_in = λ s is. let same : (t.0).bus ≡ s = bus_of_some (t.0).tam (t.0).bus s is in omega (arith, same, bus, buses, room, sound.few_wires);
      place_in = omega arith;
      parent_in = omega (arith, p.within);
    })

parents_first : (soc : SocValue) (plan : PlanValue) (parents : List ℕ) → AreParents soc parents → ParentsFirst parents (placed_tests soc plan)
parents_first soc plan parents are i j a b at at' same =
    let t = from_map placed_of (planned soc plan) i a at in
    let u = from_map placed_of (planned soc plan) j b at' in
    let p : HasParentAt soc parents (u.0).place = are (u.0).place (place_within soc plan j u.0 u.1) in
    let parent : slice_index parents (u.0).place ≡ p.q = get_or_from_slice_get parents (u.0).place p.q 0 p.at in
    let same' : (t.0).place ≡ slice_index parents (u.0).place = rw (← t.2, ← u.2) at same in
    let within : (t.0).place < length soc.modules = place_within soc plan i t.0 t.1 in
    let is : IsParent soc.modules p.q (u.0).place = p.is (omega arith) in
    planned_in_order soc plan i j t.0 u.0 t.1 u.1 (omega (arith, is.earlier))

pub layout : (soc : SocValue) (limits : LimitsValue) (plan : PlanValue) (parents : List ℕ) (placed : List PlacedTest) (begins : List Begin) (n : ℕ) → IsSoundLimits soc limits → KeptTo soc limits plan 7 → placed ≡ placed_tests soc plan → AreParents soc parents → length parents ≡ length soc.modules → AreBegins placed begins → n ≡ length parents + WIRES_MOST + 1 → IsLayout parents placed begins n
layout soc limits plan parents placed begins n sound kept same are long begun room = record {
  slots = rw same (slots_are soc limits plan parents n sound kept are long room);
  begins_are = begun;
  parents_first = rw same (parents_first soc plan parents are);
}
