-- Where a test fits, by what a table keeps.
use Rattle.std.proofs.Common.{inr, ◌≡◌, ℕ, ◌+◌, ◌-◌, ◌*◌, ◌<◌, ◌≤◌, ◌^◌, Option, None, Some, List, [], ◌∷◌, length, get_or, map, arith, refl, sym, ap, ◌∙◌, subst}
use Rattle.std.specs.{Prelude.IfSome, Global.Vec, List.All, List.sum_by, List.flat_map}
use Rattle.std.proofs.lemmas.List.{length-map, Sums.sum_by-cons, Elements.All-head, Elements.All-tail}
use Rattle.std.proofs.lemmas.Option.{slice_get-get_or, get_or_from_slice_get}
use Rattle.smallvec.specs.SmallVec.{SmallVec}
use Rattle.resource_table.specs.{declared.JobTest.JobTest, declared.Placement.Placement}
use Rattle.busy_times.specs.{declared.power.Draw.Draw, declared.points.Point.Point}
use Rattle.resource_table.specs.Jobs.{TestValue, JobValue, test_value, test_at, no_test, IsSoundTest}
use Rattle.resource_table.specs.{Schedules.last_end, Schedules.power_at, Schedules.StaysWithin, Calm.IsCalm, Kept.IsKept}
use Rattle.busy_times.specs.Draws.{taken_by, load_of, StepsFit}
use Rattle.resource_table.specs.Resources.{marks_of}
use Rattle.busy_times.specs.Profiles.{ArePoints, IsEndedProfile}
use Rattle.busy_times.proofs.Profiles.{sum_of_none, none_taken, drawn_profile}
use Rattle.resource_table.proofs.KeptMarks.{all_marked}
use Rattle.resource_table.proofs.Fitting.{draws_ended, last_small, cycles_small, load_is_power, steps_from_within, within_from_steps, within_without_limit}
use Rattle.common_lemmas.proofs.Lists.{map_at, all_at, any_default}

-- a test that was read is the one of the job
pub wanted_is : (tests : List JobTest) (test : ℕ) (r : JobTest) → test < length (map test_value tests) → r ≡ get_or tests test r → test_value r ≡ get_or (map test_value tests) test no_test
wanted_is tests test r inside is =
    let lt : test < length tests = omega (arith, length-map tests test_value) in
    let there = slice_get-get_or tests test r lt ∙ ap Some (sym is) in
    sym (get_or_from_slice_get (map test_value tests) test (test_value r) no_test (map_at test_value tests test r there))

module _ {job : JobValue} {trail : SmallVec Placement} {ends : Vec (Option ℕ)} {lasts : Vec ℕ} {draws : Vec Draw} (kept : IsKept job trail ends lasts draws) (test : ℕ) (inside : test < length job.tests) (wanted : TestValue) (wanted_at : wanted ≡ test_at job test) where
  -- ---- numbers

  pub short_enough : (last : ℕ) → last ≡ last_end job trail.items → last + wanted.cycles ≤ 2 * 10 ^ 18
  short_enough last is =
      let most = last_small (record { job = job; placed = trail.items }) kept.sound in
      let length' = cycles_small job test kept.sound.job inside in
      let same = ap (λ (t : TestValue). t.cycles) wanted_at in
      omega arith

  -- ---- power

  pub steps_within_limit : (steps : List (ℕ × ℕ)) (limit : ℕ) → steps ≡ wanted.steps → job.power ≡ Some limit → All (λ (s : ℕ × ℕ). s.1 ≤ limit) steps
  steps_within_limit steps limit steps_is is =
      rw (steps_is ∙ ap (λ (t : TestValue). t.steps) wanted_at) (rw is at (kept.sound.job.tests test no_test inside).within)

  pub steps_here : (start limit : ℕ) (ds : List Draw) (steps : List (ℕ × ℕ)) → ds ≡ draws.items → steps ≡ wanted.steps → job.power ≡ Some limit → StaysWithin job trail.items test start → StepsFit (load_of ds) limit start wanted.cycles steps
  steps_here start limit ds steps ds_is steps_is is within =
      let base = steps_from_within (record { job = job; placed = trail.items }) test start limit kept.sound inside is within in
      rw steps_is (rw wanted_at (rw (ds_is ∙ kept.draws_are) base))

  pub within_here : (start limit : ℕ) (ds : List Draw) (steps : List (ℕ × ℕ)) → ds ≡ draws.items → steps ≡ wanted.steps → job.power ≡ Some limit → StepsFit (load_of ds) limit start wanted.cycles steps → StaysWithin job trail.items test start
  within_here start limit ds steps ds_is steps_is is fit =
      within_from_steps (record { job = job; placed = trail.items }) test start limit kept.sound inside is
      (rw (ds_is ∙ kept.draws_are) at (rw wanted_at at (rw steps_is at fit)))

-- the steps of all tests together are few enough to be counted
pub steps_counted : (limit : Option ℕ) (tests : List JobTest) → All (IsSoundTest limit) (map test_value tests) →
    sum_by (λ (t : JobTest). length t.power.items) tests ≤ 16 * sum_by (λ (t : TestValue). t.cycles) (map test_value tests)
steps_counted limit [] all = omega arith
steps_counted limit (t ∷ tests) all =
    let here = All-head (IsSoundTest limit) (test_value t) (map test_value tests) all in
    let lasts = here.lasts in
    let few = here.few_steps in
    let ih = steps_counted limit tests (All-tail (IsSoundTest limit) (test_value t) (map test_value tests) all) in
    omega (arith, lasts, few, ih, sum_by-cons (λ (t : JobTest). length t.power.items) t tests, sum_by-cons (λ (t : TestValue). t.cycles) (test_value t) (map test_value tests))

-- where little is drawn for good, each step of a test from then on fits
pub steps_calm : (load : ℕ → ℕ) (limit most start length' : ℕ) (steps : List (ℕ × ℕ)) → ((c : ℕ) → start ≤ c → load c ≤ limit - most) → All (λ (s : ℕ × ℕ). s.1 ≤ most) steps → All (λ (s : ℕ × ℕ). s.1 ≤ limit) steps →
    StepsFit load limit start length' steps
steps_calm load limit most start length' [] calm low within = tt
steps_calm load limit most start length' (s ∷ next) calm low within =
    let here = All-head (λ (s : ℕ × ℕ). s.1 ≤ most) s next low in
    let top = All-head (λ (s : ℕ × ℕ). s.1 ≤ limit) s next within in (
      (λ c from to. (let free = calm c (omega (arith, from)) in omega (arith, free, here, top))),
      steps_calm load limit most start length' next calm (All-tail (λ (s : ℕ × ℕ). s.1 ≤ most) s next low) (All-tail (λ (s : ℕ × ℕ). s.1 ≤ limit) s next within),
    )

-- each step draws no more than `most`
pub steps_low : (steps : List (ℕ × ℕ)) (most : ℕ) → ((k : ℕ) → k < length steps → (get_or steps k (0, 0)).1 ≤ most) → All (λ (s : ℕ × ℕ). s.1 ≤ most) steps
steps_low steps most low k d lt = rw (any_default steps k d (0, 0) lt) (low k lt)

module _ {job : JobValue} {trail : SmallVec Placement} {ends : Vec (Option ℕ)} {lasts : Vec ℕ} {draws : Vec Draw} (kept : IsKept job trail ends lasts draws) where
  -- what the draws take is what the placed tests draw
  pub power_is_load : (c : ℕ) → load_of draws.items c ≡ power_at job trail.items c
  power_is_load c =
      ap (λ v. load_of v c) kept.draws_are ∙ load_is_power job trail.items kept.sound.job (λ i p at. (kept.sound.placed i p at).in_job) c

  -- the profile that is kept tells what the draws take, whatever is asked of
  pub profile_now : (points read : List Point) (last : ℕ) → ArePoints draws.items (flat_map (marks_of job) trail.items) points → read ≡ points →
      last ≡ last_end job trail.items → IsEndedProfile (load_of draws.items) read last
  profile_now points read last are read_is is = subst (λ v. IsEndedProfile (load_of draws.items) v last) (sym read_is) (record {
    profile = drawn_profile draws.items (flat_map (marks_of job) trail.items) points (rw kept.draws_are (all_marked job trail.items kept.sound.job (λ i p at. (kept.sound.placed i p at).in_job))) are;
    over = (λ c late. sum_of_none (taken_by c) draws.items (λ i d at. let end = all_at (λ (d : Draw). d.to ≤ last) draws.items i d ended at in none_taken d c (inr (omega arith))));
  })
    where
      ended : All (λ (d : Draw). d.to ≤ last) draws.items
      ended = rw is (rw kept.draws_are (draws_ended job trail.items))

  -- where the draws take little from a cycle on, so do the placed tests
  pub calm_here : (limit most calm : ℕ) → job.power ≡ Some limit → ((c : ℕ) → calm ≤ c → load_of draws.items c ≤ limit - most) → IsCalm job trail.items most calm
  calm_here limit most calm is low c late =
      subst (λ o. IfSome o (λ l. power_at job trail.items c ≤ l - most)) (sym is)
      (let same = power_is_load c in let here = low c late in omega (arith, same, here))

  -- a test that draws no more than what is left free stays within the limit from a calm cycle on
  pub calm_within : (test : ℕ) → test < length job.tests → (wanted : TestValue) → wanted ≡ test_at job test → (most calm start : ℕ) (steps : List (ℕ × ℕ)) →
      steps ≡ wanted.steps → IsCalm job trail.items most calm → calm ≤ start → All (λ (s : ℕ × ℕ). s.1 ≤ most) steps → StaysWithin job trail.items test start
  calm_within test inside wanted wanted_at most calm start steps steps_is stays late low = by_limit job.power refl
    where
      by_limit : (o : Option ℕ) → job.power ≡ o → StaysWithin job trail.items test start
      by_limit None none = within_without_limit job trail.items test start none
      by_limit (Some limit) is =
          within_here kept test inside wanted wanted_at start limit draws.items steps refl steps_is is
          (steps_calm (load_of draws.items) limit most start wanted.cycles steps
          (λ c from. (let same = power_is_load c in
          let here = rw is at (stays c (omega (arith, late, from))) in
          omega (arith, same, here)))
          low (steps_within_limit kept test inside wanted wanted_at steps limit steps_is is))
