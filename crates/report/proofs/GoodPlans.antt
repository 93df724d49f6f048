-- What the placed tests of a good plan keep.
use Rattle.std.proofs.Common.{◌≡◌, ℕ, suc, ◌+◌, ◌-◌, ◌*◌, ◌^◌, ◌≤◌, ◌<◌, Bool, true, false, Option, None, Some, List, [], ◌∷◌, length, map, refl, sym, ap, ◌∙◌, arith, inl, inr, leb, ltb, ◌&&◌, slice_get, slice_index, sum, sum_by}
use Rattle.std.proofs.lemmas.Bool.{and_parts, eqb-true, leb-true, ltb-true, cases_Bool, cases_lt, le-leb, lt-leb}
use Rattle.std.proofs.lemmas.List.{length-map, get_or_past}
use Rattle.std.proofs.lemmas.List.Sums.{sum_by-cons, sum_by_more_le}
use Rattle.std.proofs.lemmas.Option.{slice_get_within, get_or_from_slice_get}
use Rattle.std.proofs.Math.Nat.{mul-le-mul_right}
use Rattle.std.proofs.Math.Path.{fun_ext}
use Rattle.soc_model.specs.declared.Test.{Test}
use Rattle.soc_model.specs.declared.TestId.{TestId}
use Rattle.soc_model.specs.Chips.{ModuleValue, SocValue, LiveTest, is_live, live_tests, same_test}
use Rattle.soc_model.specs.Sizes.{all_tests, test_work, work}
use Rattle.soc_model.specs.SoundChips.{IsSoundChip}
use Rattle.soc_model.proofs.Limits.{powers-le, work-le}
use Rattle.plan_model.specs.Plans.{LimitsValue, PlanValue, PlannedTest, ProfileValue, chains_of, end_of, greatest, is_active as is_active_planned, of_first, operations_of, planned, planned_test, power_at, power_of, power_of_id, step_power, widths}
use Rattle.plan_model.specs.Right.{IsAt}
use Rattle.plan_model.specs.Rules.{IsGood, Cycles, Wrappers, Proper, Wires}
use Rattle.plan_model.specs.SoundLimits.{IsSoundLimits, IsSoundProfile, Grow}
use Rattle.plan_model.proofs.Greatest.{le-greatest_at}
use Rattle.plan_model.proofs.Lists.{from_filter, in_flat_map}
use Rattle.plan_model.proofs.PlannedTests.{Origin, origin}
use Rattle.plan_model.proofs.PowerAndAreaBounds.{widths_fit}
use Rattle.plan_model.proofs.ShortTests.{short_test}
use Rattle.plan_model.proofs.Sums.{at_most_one, sum_by-filter, sum_by-le_at}
use Rattle.live_tests.specs.declared.placed.PlacedTest.{PlacedTest}
use Rattle.live_tests.specs.Placed.{bus_over, placed_of, placed_tests}
use Rattle.live_tests.proofs.HowMany.{live_tests-le}
use Rattle.live_tests.specs.Events.{HasSteps, profile_place, steps_from}
use Rattle.live_tests.specs.Loads.{drawn, drawn_by, is_active}
use Rattle.report.specs.Totals.{area_of, busy_area, cycles_of, wires_over}
use Rattle.report.specs.BusLines.{is_bus, is_over}
use Rattle.report.specs.PlacedTests.{AreTests, StandIn, active_over}
use Rattle.common_lemmas.proofs.Lists.{from_map, sum_map}

-- ---- when they end

pub ends_by : (soc : SocValue) (limits : LimitsValue) (plan : PlanValue) → IsGood soc limits plan → (i : ℕ) (t : PlacedTest) → slice_get (placed_tests soc plan) i ≡ Some t → (t.start ≤ t.end) × (t.end ≤ plan.cycles)
ends_by soc limits plan good i t at =
    let u = from_map placed_of (planned soc plan) i t at in
    let most : end_of u.0 ≤ greatest (map end_of (planned soc plan)) = le-greatest_at end_of (planned soc plan) i u.0 u.1 in
    let cycles : plan.cycles ≡ greatest (map end_of (planned soc plan)) = good Cycles in
    let start : (u.0).start ≡ t.start = ap (λ (t : PlacedTest). t.start) u.2 in
    let end : end_of u.0 ≡ t.end = ap (λ (t : PlacedTest). t.end) u.2 in
    (omega (arith, start, end), omega (arith, most, cycles, end))

-- ---- one at a time on a bus

-- what it means to be over a bus at a cycle
record IsOn (b c : ℕ) (t : PlannedTest) : Type 0 where
  pub tam : t.tam ≡ true
  pub bus : t.bus ≡ b
  pub active : (t.start ≤ c) × (c < end_of t)

bus_is : (b : ℕ) (tam : Bool) (bus : ℕ) → is_bus b (bus_over tam bus) ≡ true → (tam ≡ true) × (bus ≡ b)
bus_is b true bus on = (refl, eqb-true bus b on)
bus_is b false bus on = absurd cc

is_on : (b c : ℕ) (t : PlannedTest) → is_over b (placed_of t) && is_active c (placed_of t) ≡ true → IsOn b c t
is_on b c t on =
    let parts = and_parts (is_over b (placed_of t)) (is_active c (placed_of t)) on in
    let bus = bus_is b t.tam t.bus parts.0 in
    let active = and_parts (leb t.start c) (ltb c (end_of t)) parts.1 in
    record { tam = bus.0; bus = bus.1; active = (leb-true t.start c active.0, ltb-true c (end_of t) active.1) }

never_both : (soc : SocValue) (limits : LimitsValue) (plan : PlanValue) → IsGood soc limits plan → (b c i j : ℕ) (t u : PlannedTest) → i < j → IsAt (planned soc plan) i t → IsAt (planned soc plan) j u → IsOn b c t → IsOn b c u → ⊥
never_both soc limits plan good b c i j t u less at at' on on' =
    good Wires i j c t u (record { first = at; second = at'; order = less; related = (on.tam, on'.tam, on.bus ∙ sym on'.bus); meet = (on.active, on'.active) })

one_at_a_time : (soc : SocValue) (limits : LimitsValue) (plan : PlanValue) → IsGood soc limits plan → (b c : ℕ) → active_over (placed_tests soc plan) b c ≤ 1
one_at_a_time soc limits plan good b c =
    at_most_one (λ (t : PlacedTest). is_over b t && is_active c t) (placed_tests soc plan) (λ i j x y less at at' on on'.
    let t = from_map placed_of (planned soc plan) i x at in
    let u = from_map placed_of (planned soc plan) j y at' in
    never_both soc limits plan good b c i j t.0 u.0 less t.1 u.1
    (is_on b c t.0 (ap (λ (t : PlacedTest). is_over b t && is_active c t) t.2 ∙ on)) (is_on b c u.0 (ap (λ (t : PlacedTest). is_over b t && is_active c t) u.2 ∙ on')))

-- ---- how long they are together

placed_cycles : (plan : PlanValue) (l : LiveTest) → cycles_of (placed_of (planned_test plan l.place l.core l.test)) ≡ length (operations_of l.core l.test (chains_of plan l.core l.test))
unfolding planned_test
placed_cycles plan l = omega arith

all_short : (soc : SocValue) (limits : LimitsValue) (plan : PlanValue) → IsSoundChip soc → IsGood soc limits plan → sum_by cycles_of (placed_tests soc plan) ≤ 10 ^ 18
unfolding planned
all_short soc limits plan sound good =
    let of_planned : sum_by cycles_of (placed_tests soc plan) ≡ sum_by (λ t. cycles_of (placed_of t)) (planned soc plan) = sum_map cycles_of placed_of (planned soc plan) in
    let of_live : sum_by (λ t. cycles_of (placed_of t)) (planned soc plan) ≡ sum_by (λ (l : LiveTest). cycles_of (placed_of (planned_test plan l.place l.core l.test))) (live_tests soc) = sum_map (λ t. cycles_of (placed_of t)) (λ (l : LiveTest). planned_test plan l.place l.core l.test) (live_tests soc) in
    let low : sum_by (λ (l : LiveTest). cycles_of (placed_of (planned_test plan l.place l.core l.test))) (live_tests soc) ≤ work soc =
    sum_by-le_at (λ (l : LiveTest). cycles_of (placed_of (planned_test plan l.place l.core l.test))) (λ (l : LiveTest). test_work l.core l.test) (live_tests soc)
    (λ i l at. let e = placed_cycles plan l in let s = short_test soc plan i l (good Wrappers).1 (good Proper) at in omega (arith, e, s)) in
    omega (arith, of_planned, of_live, low, work-le soc sound.size)

pub are_tests : (soc : SocValue) (limits : LimitsValue) (plan : PlanValue) → IsSoundChip soc → IsGood soc limits plan → AreTests plan.cycles (placed_tests soc plan)
are_tests soc limits plan sound good = record {
  end_by = ends_by soc limits plan good;
  apart = one_at_a_time soc limits plan good;
  short = all_short soc limits plan sound good;
}

-- ---- where they stand

planned_place : (plan : PlanValue) (place : ℕ) (m : ModuleValue) (t : Test) → (planned_test plan place m t).place ≡ place
unfolding planned_test
planned_place plan place m t = refl

pub stand_in : (soc : SocValue) (plan : PlanValue) → StandIn soc.modules (placed_tests soc plan)
stand_in soc plan i t at =
    let u = from_map placed_of (planned soc plan) i t at in
    let o : Origin soc plan i u.0 = origin soc plan i u.0 u.1 in
    let within : o.l.place < length soc.modules = slice_get_within soc.modules o.l.place o.l.core o.module_at in
    let place : t.place ≡ o.l.place = sym (ap (λ (t : PlacedTest). t.place) u.2) ∙ sym (ap (λ (t : PlannedTest). t.place) o.is) ∙ planned_place plan o.l.place o.l.core o.l.test in
    omega (arith, within, place)

-- ---- what they take of the wires

item-le-sum : (ws : List ℕ) (b : ℕ) → slice_index ws b ≤ sum ws
item-le-sum ws b = elim (cases_lt b (length ws)) [
  | inl within ↦ omega (arith, sum_by_more_le (λ x. x) ws b 0 within)
  | inr past ↦ let none : slice_index ws b ≡ 0 = get_or_past ws b 0 past in omega (arith, none)
]

wires-le : (ws : List ℕ) (bus : Option ℕ) → wires_over ws bus ≤ sum ws
wires-le ws None = omega arith
wires-le ws (Some b) = item-le-sum ws b

area-le : (ws : List ℕ) (tests : List PlacedTest) → busy_area ws tests ≤ sum ws * sum_by cycles_of tests
area-le ws [] = omega arith
area-le ws (t ∷ tests) =
    let here : area_of ws t ≤ sum ws * cycles_of t = mul-le-mul_right (cycles_of t) (wires-le ws t.bus) in
    let split : sum ws * (cycles_of t + sum_by cycles_of tests) ≡ sum ws * cycles_of t + sum ws * sum_by cycles_of tests = omega arith in
    let all : sum ws * sum_by cycles_of (t ∷ tests) ≡ sum ws * (cycles_of t + sum_by cycles_of tests) = ap (λ n. sum ws * n) (sum_by-cons cycles_of t tests) in
    omega (arith, here, split, all, area-le ws tests, sum_by-cons (area_of ws) t tests)

pub area_fits : (soc : SocValue) (limits : LimitsValue) (plan : PlanValue) → IsSoundChip soc → IsSoundLimits soc limits → IsGood soc limits plan → busy_area (widths plan) (placed_tests soc plan) < 2 ^ 128
area_fits soc limits plan sound bounds good =
    let few : sum (widths plan) ≤ 256 = omega (arith, widths_fit soc limits plan good, bounds.few_wires) in
    let product : sum (widths plan) * sum_by cycles_of (placed_tests soc plan) ≤ 256 * sum_by cycles_of (placed_tests soc plan) = mul-le-mul_right (sum_by cycles_of (placed_tests soc plan)) few in
    omega (arith, area-le (widths plan) (placed_tests soc plan), product, all_short soc limits plan sound good)

pub few_wires : (soc : SocValue) (limits : LimitsValue) (plan : PlanValue) → IsSoundLimits soc limits → IsGood soc limits plan → sum (widths plan) < 2 ^ 64
few_wires soc limits plan bounds good = omega (arith, widths_fit soc limits plan good, bounds.few_wires)

-- ---- what they draw

-- the steps of power of a test grow
grows : (soc : SocValue) (limits : LimitsValue) (k own : ℕ) (o : Option ProfileValue) → IsSoundLimits soc limits → slice_get limits.profiles k ≡ o → Grow 0 (steps_from o own)
grows soc limits k own None sound at = (omega arith, tt)
grows soc limits k own (Some p) sound at =
    let profile : IsSoundProfile soc p = rw (get_or_from_slice_get limits.profiles k p p at) at (sound.profiles k p (slice_get_within limits.profiles k p at)) in
    profile.grows

pub has_steps : (soc : SocValue) (limits : LimitsValue) (plan : PlanValue) → IsSoundLimits soc limits → IsGood soc limits plan → (i : ℕ) (t : PlacedTest) → slice_get (placed_tests soc plan) i ≡ Some t → HasSteps limits t
has_steps soc limits plan sound good i t at = record {
  ends_later = (ends_by soc limits plan good i t at).0;
  grow = grows soc limits (profile_place limits t.id) t.power (slice_get limits.profiles (profile_place limits t.id)) sound refl;
}

drawn_at : (limits : LimitsValue) (tests : List PlannedTest) (c : ℕ) → drawn_by limits (map placed_of tests) c ≡ power_at limits tests c
drawn_at limits tests c = sum_map (drawn limits c) placed_of tests ∙ sym (sum_by-filter (is_active_planned c) (λ t. power_of limits t (c - t.start)) tests)

-- what the placed tests draw is what the planned ones draw
pub drawn_is : (soc : SocValue) (limits : LimitsValue) (plan : PlanValue) → drawn_by limits (placed_tests soc plan) ≡ power_at limits (planned soc plan)
drawn_is soc limits plan = fun_ext (drawn_at limits (planned soc plan))

steps-le : (most r now : ℕ) (steps : List (ℕ × ℕ)) → now ≤ most → ((i : ℕ) (s : ℕ × ℕ) → slice_get steps i ≡ Some s → s.1 ≤ most) → step_power r now steps ≤ most
steps-le most r now [] low all = low
steps-le most r now (s ∷ steps) low all = elim (cases_lt r s.0) [
  | inl later ↦ rw (lt-leb s.0 r later) (steps-le most r now steps low (λ i x at. all (suc i) x at))
  | inr from ↦ rw (le-leb s.0 r from) (steps-le most r s.1 steps (all 0 s refl) (λ i x at. all (suc i) x at))
]

first-le : (most own r : ℕ) (id : TestId) (ps : List ProfileValue) → own ≤ most → ((k i : ℕ) (p : ProfileValue) (s : ℕ × ℕ) → slice_get ps k ≡ Some p → slice_get p.steps i ≡ Some s → s.1 ≤ most) →
    of_first (λ (p : ProfileValue). same_test p.test id) (λ p. step_power r 0 p.steps) own ps ≤ most
first-le most own r id [] low all = low
first-le most own r id (p ∷ ps) low all = elim (cases_Bool (same_test p.test id)) [
  | inl yes' ↦ rw yes' (steps-le most r 0 p.steps (omega arith) (λ i s at. all 0 i p s refl at))
  | inr no' ↦ rw no' (first-le most own r id ps low (λ k i q s there at. all (suc k) i q s there at))
]

profile-le : (soc : SocValue) (limits : LimitsValue) → IsSoundLimits soc limits → (k i : ℕ) (p : ProfileValue) (s : ℕ × ℕ) → slice_get limits.profiles k ≡ Some p → slice_get p.steps i ≡ Some s → s.1 ≤ 10 ^ 9
profile-le soc limits sound k i p s there at =
    let profile : IsSoundProfile soc p = rw (get_or_from_slice_get limits.profiles k p p there) at (sound.profiles k p (slice_get_within limits.profiles k p there)) in
    let small = rw (get_or_from_slice_get p.steps i s s at) at (profile.small i s (slice_get_within p.steps i s at)) in
    omega (arith, small.1)

planned_power : (plan : PlanValue) (place : ℕ) (m : ModuleValue) (t : Test) → (planned_test plan place m t).power ≡ t.power
unfolding planned_test
planned_power plan place m t = refl

own-le : (soc : SocValue) (plan : PlanValue) → IsSoundChip soc → (i : ℕ) (t : PlacedTest) → slice_get (placed_tests soc plan) i ≡ Some t → t.power ≤ 10 ^ 9
own-le soc plan sound i t at =
    let u = from_map placed_of (planned soc plan) i t at in
    let o : Origin soc plan i u.0 = origin soc plan i u.0 u.1 in
    let k = from_filter is_live o.l.core.tests o.n o.l.test o.test_at in
    let n = in_flat_map (λ (m : ModuleValue). m.tests) soc.modules o.l.place k.0 o.l.core o.l.test o.module_at k.1 in
    let low : o.l.test.power ≤ 10 ^ 9 = rw (get_or_from_slice_get (all_tests soc) n.0 o.l.test o.l.test n.1) at (powers-le soc sound.size n.0 o.l.test (slice_get_within (all_tests soc) n.0 o.l.test n.1)) in
    let power : t.power ≡ o.l.test.power = sym (ap (λ (t : PlacedTest). t.power) u.2) ∙ sym (ap (λ (t : PlannedTest). t.power) o.is) ∙ planned_power plan o.l.place o.l.core o.l.test in
    omega (arith, low, power)

drawn-le : (limits : LimitsValue) (c most : ℕ) (t : PlacedTest) → ((r : ℕ) → power_of_id limits t.id t.power r ≤ most) → drawn limits c t ≤ most
drawn-le limits c most t all = elim (cases_Bool (is_active c t)) [
  | inl yes' ↦ rw yes' (all (c - t.start))
  | inr no' ↦ rw no' (omega arith)
]

total-le : {X : Type 0} (f : X → ℕ) (most : ℕ) (xs : List X) → ((i : ℕ) (x : X) → slice_get xs i ≡ Some x → f x ≤ most) → sum_by f xs ≤ most * length xs
total-le f most [] all = omega arith
total-le f most (x ∷ xs) all =
    let here : f x ≤ most = all 0 x refl in
    let rest : sum_by f xs ≤ most * length xs = total-le f most xs (λ i y at. all (suc i) y at) in
    let split : most * suc (length xs) ≡ most + most * length xs = omega arith in
    omega (arith, here, rest, split, sum_by-cons f x xs)

how_many : (soc : SocValue) (plan : PlanValue) → IsSoundChip soc → length (placed_tests soc plan) ≤ 4096
unfolding planned
how_many soc plan sound =
    omega (arith, live_tests-le soc sound, length-map (planned soc plan) placed_of, length-map (live_tests soc) (λ (l : LiveTest). planned_test plan l.place l.core l.test))

pub drawn_fits : (soc : SocValue) (limits : LimitsValue) (plan : PlanValue) → IsSoundChip soc → IsSoundLimits soc limits → (c : ℕ) → drawn_by limits (placed_tests soc plan) c < 2 ^ 64
drawn_fits soc limits plan sound bounds c =
    let each : (i : ℕ) (t : PlacedTest) → slice_get (placed_tests soc plan) i ≡ Some t → drawn limits c t ≤ 10 ^ 9 = λ i t at.
    drawn-le limits c (10 ^ 9) t (λ r. first-le (10 ^ 9) t.power r t.id limits.profiles (own-le soc plan sound i t at) (profile-le soc limits bounds)) in
    omega (arith, total-le (drawn limits c) (10 ^ 9) (placed_tests soc plan) each, how_many soc plan sound)

-- past its end a test draws nothing
drawn_past : (limits : LimitsValue) (c : ℕ) (t : PlacedTest) → t.end ≤ c → drawn limits c t ≡ 0
drawn_past limits c t past = elim (cases_Bool (is_active c t)) [
  | inl yes' ↦
      let late : c < t.end = ltb-true c t.end (and_parts (leb t.start c) (ltb c t.end) yes').1 in
      absurd (omega (arith, late, past))
  | inr no' ↦ rw no' refl
]

none_drawn : (limits : LimitsValue) (c : ℕ) (tests : List PlacedTest) → ((i : ℕ) (t : PlacedTest) → slice_get tests i ≡ Some t → t.end ≤ c) → drawn_by limits tests c ≡ 0
none_drawn limits c [] ends = refl
none_drawn limits c (t ∷ tests) ends =
    let here : drawn limits c t ≡ 0 = drawn_past limits c t (ends 0 t refl) in
    omega (arith, here, none_drawn limits c tests (λ i u at. ends (suc i) u at), sum_by-cons (drawn limits c) t tests)

-- from the last cycle on nothing is drawn
pub drawn_ends : (soc : SocValue) (limits : LimitsValue) (plan : PlanValue) → IsGood soc limits plan → (c : ℕ) → plan.cycles ≤ c → drawn_by limits (placed_tests soc plan) c ≡ 0
drawn_ends soc limits plan good c past = none_drawn limits c (placed_tests soc plan) (λ i t at. let e = ends_by soc limits plan good i t at in omega (arith, e.1, past))
