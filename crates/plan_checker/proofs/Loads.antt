-- The placed tests of a plan of a sound chip: their names, and that their powers leave room for sums.
use Rattle.std.proofs.Common.{◌≡◌, ℕ, zero, suc, ◌+◌, ◌≤◌, ◌^◌, Option, None, Some, List, [], ◌∷◌, length, refl, ap, ◌∙◌, sym, arith, slice_get, filter, sum_by}
use Rattle.std.proofs.lemmas.List.Sums.{sum_by-cons}
use Rattle.std.proofs.lemmas.List.{length-append}
use Rattle.std.proofs.lemmas.Option.{slice_get_within, get_or_from_slice_get}
use Rattle.soc_model.specs.declared.Test.{Test}
use Rattle.soc_model.specs.declared.TestId.{TestId}
use Rattle.soc_model.specs.Chips.{ModuleValue, SocValue, LiveTest, is_live, live_of, live_from, live_tests, id_of}
use Rattle.soc_model.specs.SoundChips.{IsSoundChip}
use Rattle.plan_model.specs.Plans.{ProfileValue, LimitsValue, PlanValue, PlannedTest, planned, planned_test, step_power, power_of_id}
use Rattle.plan_model.specs.declared.TheConstants.{STEPS_MOST}
use Rattle.plan_model.specs.Rules.{live_ids}
use Rattle.plan_model.specs.SoundLimits.{IsSoundLimits, IsSoundProfile, Grow}
use Rattle.plan_model.proofs.PlannedTests.{Origin, origin}
use Rattle.live_tests.specs.declared.placed.PlacedTest.{PlacedTest}
use Rattle.live_tests.specs.Placed.{placed_of, placed_tests}
use Rattle.live_tests.specs.Names.{AllDiffer}
use Rattle.plan_checker.specs.Named.{names_of}
use Rattle.plan_checker.specs.Power.{AreProfiles, IsLoad, HasSmallSteps}
use Rattle.live_tests.specs.Events.{profile_place, steps_from, steps_of}
use Rattle.plan_checker.proofs.Finding.{some_same}
use Rattle.live_tests.proofs.Balance.{test_power}
use Rattle.plan_checker.proofs.Filling.{placed_length}
use Rattle.live_tests.proofs.HowMany.{live_tests-le}
use Rattle.live_tests.proofs.LiveIds.{ids_differ}
use Rattle.live_tests.proofs.Placing.{names_placed}
use Rattle.plan_checker.proofs.Rooms.{length_values}
use Rattle.common_lemmas.proofs.Lists.{from_map}

-- ---- names

pub placed_apart : (soc : SocValue) (plan : PlanValue) (placed : List PlacedTest) → IsSoundChip soc → placed ≡ placed_tests soc plan → AllDiffer (names_of placed)
placed_apart soc plan placed sound same = rw (same, names_placed soc plan) (ids_differ soc sound)

-- the names of the live tests are theirs
pub placed_named : (soc : SocValue) (plan : PlanValue) (placed : List PlacedTest) (names : List TestId) → names ≡ live_ids soc → placed ≡ placed_tests soc plan → names ≡ names_of placed
placed_named soc plan placed names are same = are ∙ sym (names_placed soc plan) ∙ ap names_of (sym same)

-- ---- how many

pub live_tests_are : (base : ℕ) (ms : List ModuleValue) → length (live_from base ms) ≡ sum_by (λ (m : ModuleValue). length (filter is_live m.tests)) ms
unfolding live_from
live_tests_are base [] = refl
live_tests_are base (m ∷ ms) =
    let here : length (live_of base m) ≡ length (filter is_live m.tests) = length_values (λ (t : Test). the_test base m t) (filter is_live m.tests) in
    let rest : length (live_from (base + 1) ms) ≡ sum_by (λ (m : ModuleValue). length (filter is_live m.tests)) ms = live_tests_are (base + 1) ms in
    rw (length-append (live_of base m) (live_from (base + 1) ms), sum_by-cons (λ (m : ModuleValue). length (filter is_live m.tests)) m ms) (omega (arith, here, rest))
  where
    the_test : ℕ → ModuleValue → Test → LiveTest
    the_test base m t = record { place = base; core = m; test = t }

-- ---- what they draw

-- the live test that a placed test is of
record PlacedOrigin (soc : SocValue) (plan : PlanValue) (i : ℕ) (j : PlacedTest) : Type 0 where
  l : LiveTest
  at : slice_get (live_tests soc) i ≡ Some l
  id_is : j.id ≡ id_of l
  power_is : j.power ≡ l.test.power
  ends_later : j.start ≤ j.end

placed_origin : (soc : SocValue) (plan : PlanValue) (i : ℕ) (j : PlacedTest) → slice_get (placed_tests soc plan) i ≡ Some j → PlacedOrigin soc plan i j
unfolding planned_test
placed_origin soc plan i j at =
    let t = from_map placed_of (planned soc plan) i j at in
    let o : Origin soc plan i t.0 = origin soc plan i t.0 t.1 in
    record {
      l = o.l;
      at = o.at;
      id_is = sym (ap (λ (j : PlacedTest). j.id) t.2) ∙ sym (ap (λ (t : PlannedTest). t.id) o.is);
      power_is = sym (ap (λ (j : PlacedTest). j.power) t.2) ∙ sym (ap (λ (t : PlannedTest). t.power) o.is);
      ends_later = rw (← t.2) (omega arith);
    }

-- what sound limits say of the steps of a test
record Steps (steps : List (ℕ × ℕ)) : Type 0 where
  few : length steps ≤ STEPS_MOST
  grow : Grow 0 steps
  small : (n : ℕ) (s : ℕ × ℕ) → slice_get steps n ≡ Some s → s.1 ≤ 10 ^ 9

sound_steps : (soc : SocValue) (limits : LimitsValue) (k own : ℕ) (o : Option ProfileValue) → IsSoundLimits soc limits → slice_get limits.profiles k ≡ o → (o ≡ None → own ≤ 10 ^ 9) → Steps (steps_from o own)
sound_steps soc limits k own None sound at weak = record {
  few = omega arith;
  grow = (omega arith, tt);
  small = λ n s there. own_step n s there;
}
  where
    own_step : (n : ℕ) (s : ℕ × ℕ) → slice_get ((0, own) ∷ []) n ≡ Some s → s.1 ≤ 10 ^ 9
    own_step zero s there =
        let same : (0, own) ≡ s = some_same there in
        rw (← same) (weak refl)
    own_step (suc n) s there = absurd cc
sound_steps soc limits k own (Some p) sound at weak =
    let profile : IsSoundProfile soc p = rw (get_or_from_slice_get limits.profiles k p p at) at (sound.profiles k p (slice_get_within limits.profiles k p at)) in
    record {
      few = profile.few_steps;
      grow = profile.grows;
      small = λ n s there.
          let small = rw (get_or_from_slice_get p.steps n s s there) at (profile.small n s (slice_get_within p.steps n s there)) in
          omega (arith, small.1);
    }

as_weak : (limits : LimitsValue) (id id' : TestId) (own own' r most : ℕ) → id ≡ id' → own ≡ own' → power_of_id limits id' own' r ≤ most → power_of_id limits id own r ≤ most
as_weak limits id id' own own' r most a b h = rw (a, b) h

own_weak : (limits : LimitsValue) (j : PlacedTest) (most : ℕ) → power_of_id limits j.id j.power 0 ≤ most → slice_get limits.profiles (profile_place limits j.id) ≡ None → j.power ≤ most
own_weak limits j most weak none =
    let steps : steps_of limits j ≡ (0, j.power) ∷ [] = ap (λ o. steps_from o j.power) none in
    let same : power_of_id limits j.id j.power 0 ≡ j.power = test_power limits j 0 ∙ ap (step_power 0 0) steps in
    omega (arith, same)

placed_steps : (soc : SocValue) (limits : LimitsValue) (plan : PlanValue) (most i : ℕ) (j : PlacedTest) → IsSoundLimits soc limits → limits.power ≡ Some most → slice_get (placed_tests soc plan) i ≡ Some j → HasSmallSteps limits j
placed_steps soc limits plan most i j sound limit at =
    let o : PlacedOrigin soc plan i j = placed_origin soc plan i j at in
    let within = rw limit at (sound.within i o.l o.at 0) in
    let few = rw limit at sound.power in
    let weak : power_of_id limits j.id j.power 0 ≤ most = as_weak limits j.id (id_of o.l) j.power o.l.test.power 0 most o.id_is o.power_is within in
    let s : Steps (steps_of limits j) = sound_steps soc limits (profile_place limits j.id) j.power (slice_get limits.profiles (profile_place limits j.id)) sound refl (λ none. let own : j.power ≤ most = own_weak limits j most weak none in omega (arith, own, few)) in
    record {
      steps = record { ends_later = o.ends_later; grow = s.grow };
      few = s.few;
      small = s.small;
    }

pub load_is : (soc : SocValue) (limits : LimitsValue) (plan : PlanValue) (placed : List PlacedTest) (profiles : List ℕ) (most : ℕ) → IsSoundChip soc → IsSoundLimits soc limits → placed ≡ placed_tests soc plan → AreProfiles limits placed profiles → limits.power ≡ Some most → IsLoad limits placed profiles most
load_is soc limits plan placed profiles most sound sound_limits same places limit = record {
  places = places;
  few = omega (arith, ap length same, placed_length soc plan, live_tests-le soc sound);
  steps = λ i j at. placed_steps soc limits plan most i j sound_limits limit (rw same at at);
  limit = rw limit at sound_limits.power;
}
