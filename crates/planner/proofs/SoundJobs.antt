-- The job of a sound chip under sound limits is sound.
use Rattle.std.proofs.Common.{◌≡◌, inl, inr, ℕ, zero, suc, ◌+◌, ◌≤◌, ◌^◌, true, Some, None, Option, List, [], ◌∷◌, length, get_or, map, refl, subst, arith, slice_get, IfSome, nat_le, slice_index_or, All, sum_by}
use Rattle.std.proofs.lemmas.Bool.{cases_Bool, le-leb}
use Rattle.std.proofs.lemmas.List.Sums.{sum_by-cons}
use Rattle.std.proofs.lemmas.List.Elements.{All-nil, All-cons, All-contains}
use Rattle.std.proofs.lemmas.Option.{slice_get-get_or}
use Rattle.soc_model.specs.declared.Test.{Test}
use Rattle.soc_model.specs.declared.TestId.{TestId}
use Rattle.soc_model.specs.declared.TheConstants.{POWER_MOST, NUMBER_WORD_MOST}
use Rattle.soc_model.specs.Chips.{ModuleValue, SocValue, LiveTest, is_live, live_tests, id_of, same_test}
use Rattle.soc_model.specs.Sizes.{test_work, all_tests}
use Rattle.soc_model.specs.SoundChips.{IsSoundChip}
use Rattle.soc_model.proofs.Limits.{work-le, powers-le}
use Rattle.plan_model.specs.declared.Wrapper.{Wrapper}
use Rattle.plan_model.specs.declared.TheConstants.{STEPS_MOST}
use Rattle.plan_model.specs.Plans.{BusValue, PlanValue, ProfileValue, LimitsValue, chains_of, operations_of, planned_test, step_power, power_of_id, of_first}
use Rattle.plan_model.specs.Rules.{Each, HasWrapper, HasProperCells, used_pairs, live_ids}
use Rattle.plan_model.specs.SoundLimits.{Grow, IsSoundProfile, IsSoundLimits}
use Rattle.plan_model.specs.Views.{wrapper_value}
use Rattle.plan_model.proofs.GoodPlansRunRight.{planned_some}
use Rattle.plan_model.proofs.Lists.{from_filter, in_flat_map, at_contains}
use Rattle.plan_model.proofs.PlannedTests.{IsLive, live_at}
use Rattle.plan_model.proofs.ShortTests.{live_patterns, short_test}
use Rattle.resource_table.specs.Jobs.{TestValue, IsSoundTest, IsSoundJob}
use Rattle.resource_table.proofs.Steps.{step_late}
use Rattle.planner.specs.Jobs.{settled_parts, steps_of, test_of, job_of}
use Rattle.planner.proofs.JobPrecedences.{no_id, places_in_range, acyclic_job}
use Rattle.common_lemmas.proofs.Lists.{all_from, from_map}

-- ---- cycles

some_cycle : (plan : PlanValue) (l : LiveTest) → 1 ≤ l.test.patterns → 1 ≤ length (operations_of l.core l.test (chains_of plan l.core l.test))
unfolding planned_test
some_cycle plan l live = planned_some plan l.place l.core l.test live

sum_short : (f : LiveTest → TestValue) (g : LiveTest → ℕ) (ls : List LiveTest) → ((i : ℕ) (l : LiveTest) → slice_get ls i ≡ Some l → (f l).cycles ≤ g l) → sum_by (λ (t : TestValue). t.cycles) (map f ls) ≤ sum_by g ls
sum_short f g [] h = omega arith
sum_short f g (l ∷ ls) h = omega (arith, sum_by-cons (λ (t : TestValue). t.cycles) (f l) (map f ls), sum_by-cons g l ls, h 0 l refl, sum_short f g ls (λ i x at. h (suc i) x at))

-- ---- power

-- at a step's own cycle the test draws the power of that step
step_own : (from now : ℕ) (steps : List (ℕ × ℕ)) (k : ℕ) (s : ℕ × ℕ) → Grow from steps → slice_get steps k ≡ Some s → (from ≤ s.0) × (step_power s.0 now steps ≡ s.1)
step_own from now [] k s grow at = absurd cc
step_own from now (x ∷ steps) zero s grow at =
    let same : x ≡ s = cc in
    subst (λ (v : ℕ × ℕ). (from ≤ v.0) × (step_power v.0 now (x ∷ steps) ≡ v.1)) same
    (grow.0, (let begun : nat_le x.0 x.0 ≡ true = le-leb x.0 x.0 (omega arith) in rw begun (step_late (x.0 + 1) x.0 x.1 steps grow.1 (omega arith))))
step_own from now (x ∷ steps) (suc k) s grow at =
    let r = step_own (x.0 + 1) x.1 steps k s grow.1 at in
    let begun : nat_le x.0 s.0 ≡ true = le-leb x.0 s.0 (omega (arith, r.0)) in
    (omega (arith, r.0, grow.0), rw begun r.1)

abbrev Small : ℕ × ℕ → Type 0
Small s = (s.0 ≤ NUMBER_WORD_MOST) × (s.1 ≤ POWER_MOST)

-- what a test's steps keep, whether it has a profile or not
record AreSteps (steps : List (ℕ × ℕ)) (power : ℕ → ℕ) : Type 0 where
  some_step : 1 ≤ length steps
  few_steps : length steps ≤ STEPS_MOST
  begins : (power : ℕ) × (slice_get steps 0 ≡ Some (0, power))
  grows : Grow 0 steps
  small : All Small steps
  drawn : (r : ℕ) → power r ≡ step_power r 0 steps

own_steps : (own : ℕ) → own ≤ POWER_MOST → AreSteps ((0, own) ∷ []) (λ r. own)
own_steps own small = record {
  some_step = omega arith;
  few_steps = omega arith;
  begins = (own, refl);
  grows = (omega arith, tt);
  small = All-cons Small (0, own) [] (omega arith, small) (All-nil Small);
  drawn = λ r. let begun : nat_le 0 r ≡ true = le-leb 0 r (omega arith) in rw begun refl;
}

steps_in : (soc : SocValue) (ps : List ProfileValue) → All (IsSoundProfile soc) ps → (id : TestId) (own : ℕ) → own ≤ POWER_MOST
    → AreSteps (of_first (λ (p : ProfileValue). same_test p.test id) (λ p. p.steps) ((0, own) ∷ []) ps) (λ r. of_first (λ (p : ProfileValue). same_test p.test id) (λ p. step_power r 0 p.steps) own ps)
steps_in soc [] sound id own small = own_steps own small
steps_in soc (p ∷ ps) sound id own small = elim (cases_Bool (same_test p.test id)) [
  | inl yes' ↦ rw yes' (let s : IsSoundProfile soc p = sound 0 p (omega arith) in record { some_step = s.some_step; few_steps = s.few_steps; begins = s.begins; grows = s.grows; small = s.small; drawn = λ r. refl })
  | inr no' ↦ rw no' (steps_in soc ps (λ k d less. sound (suc k) d (omega (arith, less))) id own small)
]

within_steps : (steps : List (ℕ × ℕ)) (power : ℕ → ℕ) (limit : Option ℕ) → AreSteps steps power → ((r : ℕ) → IfSome limit (λ most. power r ≤ most)) → IfSome limit (λ most. All (λ (s : ℕ × ℕ). s.1 ≤ most) steps)
within_steps steps power None are h = tt
within_steps steps power (Some most) are h = λ k d less.
    let s : ℕ × ℕ = get_or steps k d in
    let own = step_own 0 0 steps k s are.grows (slice_get-get_or steps k d less) in
    let here = h s.0 in
    let drawn = are.drawn s.0 in
    omega (arith, own.1, here, drawn)

-- ---- the power of a live test

live_power : (soc : SocValue) → IsSoundChip soc → (i : ℕ) (l : LiveTest) → slice_get (live_tests soc) i ≡ Some l → l.test.power ≤ POWER_MOST
live_power soc sound i l at =
    let o : IsLive soc.modules 0 l = live_at soc.modules 0 i l at in
    let t = from_filter is_live l.core.tests o.n l.test o.test_at in
    let r = in_flat_map (λ (m : ModuleValue). m.tests) soc.modules o.up t.0 l.core l.test o.module_at t.1 in
    let all : All (λ (t : Test). t.power ≤ 10 ^ 9) (all_tests soc) = powers-le soc sound.size in
    All-contains (λ (t : Test). t.power ≤ 10 ^ 9) (all_tests soc) l.test all (at_contains (all_tests soc) r.0 l.test r.1)

module _ (soc : SocValue) (limits : LimitsValue) (buses : List BusValue) (ws : List Wrapper) (sound : IsSoundChip soc) (limited : IsSoundLimits soc limits)
    (have : Each (HasWrapper (settled_parts buses (map wrapper_value ws))) (used_pairs soc)) (proper : Each (HasProperCells soc) (map wrapper_value ws)) where
  abbrev plan : PlanValue
  plan = settled_parts buses (map wrapper_value ws)

  sound_test : (k : ℕ) (l : LiveTest) → slice_get (live_tests soc) k ≡ Some l → IsSoundTest limits.power (test_of soc limits plan l)
  sound_test k l at =
      let are : AreSteps (steps_of limits (id_of l) l.test.power) (λ r. power_of_id limits (id_of l) l.test.power r) = steps_in soc limits.profiles limited.profiles (id_of l) l.test.power (live_power soc sound k l at) in
      record {
        lasts = some_cycle plan l (live_patterns soc k l at);
        some_step = are.some_step;
        few_steps = are.few_steps;
        begins = are.begins;
        grows = are.grows;
        small = are.small;
        within = within_steps (steps_of limits (id_of l) l.test.power) (λ r. power_of_id limits (id_of l) l.test.power r) limits.power are (limited.within k l at);
      }

  pub job_sound : IsSoundJob (job_of soc limits plan)
  job_sound = record {
    tests = all_from (IsSoundTest limits.power) (job_of soc limits plan).tests (λ k t at. let from = from_map (test_of soc limits plan) (live_tests soc) k t at in subst (IsSoundTest limits.power) from.2 (sound_test k from.0 from.1));
    short = let part = sum_short (test_of soc limits plan) (λ (l : LiveTest). test_work l.core l.test) (live_tests soc) (λ i l at. short_test soc plan i l have proper at) in omega (arith, part, work-le soc sound.size);
    in_range = places_in_range soc limits plan;
    acyclic = ((λ (i : ℕ). limited.acyclic.0 (slice_index_or (live_ids soc) i no_id)), λ i j before. acyclic_job soc limits plan limited.acyclic.0 limited.acyclic.1 i j before);
  }
