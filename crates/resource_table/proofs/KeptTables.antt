-- What a table keeps, as tests are placed and taken back.
use Rattle.std.proofs.Common.{◌≡◌, ℕ, zero, suc, replicate, ◌+◌, ◌-◌, ◌<◌, ◌≤◌, inl, inr, Option, None, Some, List, [], ◌∷◌, ◌++◌, length, get_or, set, take, map, max, arith, refl, sym, ap, ◌∙◌, subst, length-append}
use Rattle.std.specs.{Prelude.is_some, Prelude.vec_capacity, Prelude.IfSome, List.sum_by, List.flat_map, Global.Vec}
use Rattle.std.proofs.lemmas.{Bool.cases_eq, Bool.cases_lt, List.Sums.sum_by-cons, List.Sums.sum_by_push, List.Elements.All-nil}
use Rattle.std.proofs.Math.{ListN.get_or-append, Seq.get_or-append_seam}
use Rattle.std.proofs.lemmas.List.{take_at, take_all, length-take, take-append-le, get_or-take, length-set, get_or-set_same, get_or-set_other, map-append, length-replicate}
use Rattle.smallvec.specs.SmallVec.{SmallVec}
use Rattle.plan_model.{specs.Plans.greatest, specs.Rules.Each, proofs.Greatest.greatest_push}
use Rattle.resource_table.specs.{declared.Placement.Placement, declared.JobTest.JobTest}
use Rattle.busy_times.specs.{declared.points.Point.Point, declared.power.Draw.Draw}
use Rattle.resource_table.specs.Jobs.{TestValue, JobValue, IsSoundJob, test_value, test_at, no_test, cycles_of}
use Rattle.resource_table.specs.Schedules.{at_start, end_of, last_end, is_placed, MayPlace, IsSoundTable}
use Rattle.busy_times.specs.Draws.{load_of, draws_from}
use Rattle.resource_table.specs.Resources.{draws_of, end_in}
use Rattle.busy_times.specs.Profiles.{ArePoints}
use Rattle.resource_table.specs.Kept.{IsKept, IsProfiled}
use Rattle.resource_table.proofs.Placed.{each_push, each_front, each_last, sound_tests, sum_of_placed, few_placed, end_is_some, end_none, end_new, end_other}
use Rattle.common_lemmas.proofs.Lists.{flat_map_push, any_default}

-- ---- what a table answers

pub kept_is_placed : {job : JobValue} {trail : SmallVec Placement} {ends : Vec (Option ℕ)} {lasts : Vec ℕ} {draws : Vec Draw} → IsKept job trail ends lasts draws →
    (test : ℕ) (r : Option ℕ) → test < length job.tests → r ≡ get_or ends.items test r → is_some r ≡ is_placed trail.items test
kept_is_placed {job} {trail} {ends} {lasts} {draws} kept test r lt is =
    let long = kept.ends_long in
    ap is_some (is ∙ any_default ends.items test r None (omega arith) ∙ kept.ends_are test lt) ∙ end_is_some job trail.items test

-- ---- room

pub length-draws_from : (start length' : ℕ) (steps : List (ℕ × ℕ)) → length (draws_from start length' steps) ≡ length steps
length-draws_from start length' [] = refl
length-draws_from start length' (s ∷ next) = omega (arith, length-draws_from start length' next)

module _ (job : JobValue) (placed : List Placement) (test start : ℕ) (sound : IsSoundTable (record { job = job; placed = placed })) (may : MayPlace job placed test start) where
  -- a sound table with one placement more
  pub sound_push : IsSoundTable (record { job = job; placed = placed ++ at_start test start ∷ [] })
  sound_push = record {
    job = sound.job;
    placed = each_push (λ earlier p. MayPlace job earlier p.test p.start) placed (at_start test start) sound.placed may;
  }

  -- there is a place in the trail
  pub trail_has_room : length placed + 1 ≤ length job.tests
  trail_has_room =
      let more = sound_push in
      let few = few_placed job (placed ++ at_start test start ∷ []) sound.job (sound_tests (record { job = job; placed = placed ++ at_start test start ∷ [] }) more) in
      omega (arith, length-append placed (at_start test start ∷ []), few)

  -- and there is one for each step
  pub draws_have_room : length (flat_map (draws_of job) placed) + length (test_at job test).steps ≤ sum_by (λ (t : TestValue). length t.steps) job.tests
  draws_have_room =
      let more = sound_push in
      let f : TestValue → ℕ = λ t. length t.steps in
      let g : Placement → ℕ = λ p. length (get_or job.tests p.test no_test).steps in
      let whole = sum_of_placed f refl (placed ++ at_start test start ∷ []) job.tests (sound_tests (record { job = job; placed = placed ++ at_start test start ∷ [] }) more) in
      let split = sum_by_push g placed (at_start test start) in
      let long = go placed in
      omega arith
    where
      go : (placed : List Placement) → length (flat_map (draws_of job) placed) ≡ sum_by (λ (p : Placement). length (get_or job.tests p.test no_test).steps) placed
      go [] = refl
      go (p ∷ placed) =
          let here = length-draws_from p.start (cycles_of job p.test) (test_at job p.test).steps in
          omega (arith, length-append (draws_of job p) (flat_map (draws_of job) placed), sum_by-cons (λ (p : Placement). length (get_or job.tests p.test no_test).steps) p placed, go placed, here)

-- ---- nothing placed

get_or-none : (n i : ℕ) → get_or (replicate n (let o : Option ℕ = None in o)) i None ≡ None
get_or-none zero i = refl
get_or-none (suc n) zero = refl
get_or-none (suc n) (suc i) = get_or-none n i

module _ (job : JobValue) (trail : SmallVec Placement) where
  pub kept_new : (ends : Vec (Option ℕ)) (lasts : Vec ℕ) (draws : Vec Draw) (tests steps : ℕ) → IsSoundJob job → tests ≡ length job.tests →
      steps ≡ sum_by (λ (t : TestValue). length t.steps) job.tests → trail.items ≡ [] → tests ≤ trail.capacity → ends.items ≡ replicate tests None → lasts.items ≡ [] →
      tests ≤ vec_capacity lasts → draws.items ≡ [] → steps ≤ vec_capacity draws → IsKept job trail ends lasts draws
  kept_new ends lasts draws tests steps sound tests_is steps_is trail_is trail_room ends_is lasts_is lasts_room draws_is draws_room = record {
    sound = record { job = sound; placed = subst (Each (λ earlier p. MayPlace job earlier p.test p.start)) (sym trail_is) (λ n p at. absurd cc) };
    ends_long = ap length ends_is ∙ length-replicate tests None ∙ tests_is;
    ends_are = (λ test lt. ap (λ v. get_or v test None) ends_is ∙ get_or-none tests test ∙ ap (λ v. end_in job v test) (sym trail_is));
    lasts_long = ap length lasts_is ∙ sym (ap length trail_is);
    lasts_are = (λ i lt. absurd (let none = ap length trail_is in omega (arith, lt, none)));
    draws_are = draws_is ∙ ap (flat_map (draws_of job)) (sym trail_is);
    trail_room = omega arith;
    lasts_room = omega arith;
    draws_room = omega arith;
  }

  pub profiled_new : (draws : Vec Draw) (points : Vec Point) (tests steps : ℕ) → tests ≡ length job.tests → steps ≡ sum_by (λ (t : TestValue). length t.steps) job.tests →
      trail.items ≡ [] → draws.items ≡ [] → points.items ≡ [] → tests + steps ≤ vec_capacity points → IsProfiled job trail draws points
  profiled_new draws points tests steps tests_is steps_is trail_is draws_is points_is room = record {
    are = under job.power (rw trail_is (rw draws_is (rw points_is none)));
    room = omega (arith, tests_is, steps_is, room);
  }
    where
      under : {P : Type 0} (o : Option ℕ) → P → IfSome o (λ _. P)
      under None p = tt
      under (Some limit) p = p

      none : ArePoints [] [] []
      none = record {
        ordered = (λ i j d le lt. absurd (omega (arith, lt)));
        loads = All-nil (λ (p : Point). p.load ≡ load_of [] p.cycle);
        marks = (λ c. refl);
        count = refl;
      }

pub steps_same : (tests : List JobTest) → sum_by (λ (t : JobTest). length t.power.items) tests ≡ sum_by (λ (t : TestValue). length t.steps) (map test_value tests)
steps_same [] = refl
steps_same (t ∷ tests) = omega (arith, sum_by-cons (λ (t : JobTest). length t.power.items) t tests, sum_by-cons (λ (t : TestValue). length t.steps) (test_value t) (map test_value tests), steps_same tests)

-- ---- one more, one less

-- the latest ends with one placed test more
lasts_push : (job : JobValue) (placed : List Placement) (p : Placement) (lasts : List ℕ) → length lasts ≡ length placed → ((i : ℕ) → i < length placed → get_or lasts i 0 ≡ last_end job (take (i + 1) placed)) →
    (i : ℕ) → i < length (placed ++ p ∷ []) → get_or (lasts ++ max (last_end job placed) (end_of job p) ∷ []) i 0 ≡ last_end job (take (i + 1) (placed ++ p ∷ []))
lasts_push job placed p lasts long are i lt = elim (cases_lt i (length placed)) [
  | inl old ↦ get_or-append lasts (max (last_end job placed) (end_of job p) ∷ []) 0 i (omega arith) ∙ are i old ∙ ap (last_end job) (sym (take-append-le (i + 1) placed (p ∷ []) (omega arith)))
  | inr new ↦
      let at : i ≡ length lasts = omega (arith, lt, new, long, length-append placed (p ∷ [])) in
      ap (λ n. get_or (lasts ++ max (last_end job placed) (end_of job p) ∷ []) n 0) at ∙ get_or-append_seam lasts (max (last_end job placed) (end_of job p)) [] 0
      ∙ sym (last_push job placed p) ∙ ap (last_end job) (sym (take_all (i + 1) (placed ++ p ∷ []) (omega (arith, length-append placed (p ∷ []), new))))
]
  where
    last_push : (job : JobValue) (placed : List Placement) (p : Placement) → last_end job (placed ++ p ∷ []) ≡ max (last_end job placed) (end_of job p)
    last_push job placed p = ap greatest (map-append (end_of job) placed (p ∷ [])) ∙ greatest_push (map (end_of job) placed) (end_of job p)

-- the last of them is that of all placed tests
pub last_kept : {job : JobValue} {trail : SmallVec Placement} {ends : Vec (Option ℕ)} {lasts : Vec ℕ} {draws : Vec Draw} → IsKept job trail ends lasts draws →
    get_or lasts.items (length lasts.items - 1) 0 ≡ last_end job trail.items
last_kept {job} {trail} {ends} {lasts} {draws} kept = go trail.items lasts.items kept.lasts_long kept.lasts_are
  where
    go : (placed : List Placement) (ls : List ℕ) → length ls ≡ length placed → ((i : ℕ) → i < length placed → get_or ls i 0 ≡ last_end job (take (i + 1) placed)) → get_or ls (length ls - 1) 0 ≡ last_end job placed
    go [] [] long are = refl
    go [] (l ∷ ls) long are = absurd (omega (arith, long))
    go (p ∷ placed) ls long are =
        are (length ls - 1) (omega (arith, long)) ∙ ap (last_end job) (take_all (length ls - 1 + 1) (p ∷ placed) (omega (arith, long)))

module _ (job : JobValue) (trail new_trail : SmallVec Placement) (ends new_ends : Vec (Option ℕ)) (lasts new_lasts : Vec ℕ) (draws new_draws : Vec Draw) where
  pub kept_push : (test start : ℕ) → IsKept job trail ends lasts draws → MayPlace job trail.items test start → new_trail.items ≡ trail.items ++ at_start test start ∷ [] →
      new_trail.capacity ≡ trail.capacity → new_ends.items ≡ set ends.items test (Some (end_of job (at_start test start))) →
      new_lasts.items ≡ lasts.items ++ max (last_end job trail.items) (end_of job (at_start test start)) ∷ [] → vec_capacity new_lasts ≡ vec_capacity lasts →
      new_draws.items ≡ draws.items ++ draws_of job (at_start test start) → vec_capacity new_draws ≡ vec_capacity draws → IsKept job new_trail new_ends new_lasts new_draws
  kept_push test start kept may trail_is trail_cap ends_is lasts_is lasts_cap draws_is draws_cap =
      let p = at_start test start in
      record {
        sound = rw trail_is (sound_push job trail.items test start kept.sound may);
        ends_long = ap length ends_is ∙ length-set ends.items test (Some (end_of job p)) ∙ kept.ends_long;
        ends_are = (λ other lt. rw trail_is (subst (λ v. get_or v other None ≡ end_in job (trail.items ++ p ∷ []) other) (sym ends_is) (elim (cases_eq other test) [
          | inl same ↦ rw same (get_or-set_same ends.items test (Some (end_of job p)) None (let inside = may.in_job in omega arith) ∙ sym (end_new job trail.items p may.new))
          | inr apart ↦ get_or-set_other ends.items test other (Some (end_of job p)) None apart ∙ kept.ends_are other lt ∙ sym (end_other job trail.items p other (λ e. apart (sym e)))
        ])));
        lasts_long = (let one = ap length lasts_is in let same = kept.lasts_long in omega (arith, one, length-append lasts.items (max (last_end job trail.items) (end_of job p) ∷ []), same, ap length trail_is, length-append trail.items (p ∷ [])));
        lasts_are = (λ i lt. rw lasts_is (rw trail_is (lasts_push job trail.items p lasts.items kept.lasts_long kept.lasts_are i (let same = ap length trail_is in omega (arith, lt, same)))));
        draws_are = draws_is ∙ ap (λ v. v ++ draws_of job p) kept.draws_are ∙ sym (push_draws_of trail.items p) ∙ ap (flat_map (draws_of job)) (sym trail_is);
        trail_room = (let room = kept.trail_room in omega (arith, room, trail_cap));
        lasts_room = (let room = kept.lasts_room in omega (arith, room, lasts_cap));
        draws_room = (let room = kept.draws_room in omega (arith, room, draws_cap));
      }
    where
      push_draws_of : (placed : List Placement) (p : Placement) → flat_map (draws_of job) (placed ++ p ∷ []) ≡ flat_map (draws_of job) placed ++ draws_of job p
      push_draws_of placed p = flat_map_push (draws_of job) placed p

  pub kept_pop : (p : Placement) → IsKept job trail ends lasts draws → trail.items ≡ new_trail.items ++ p ∷ [] → new_trail.capacity ≡ trail.capacity →
      new_ends.items ≡ set ends.items p.test None → new_lasts.items ≡ take (length new_trail.items) lasts.items → vec_capacity new_lasts ≡ vec_capacity lasts →
      new_draws.items ≡ take (length draws.items - length (test_at job p.test).steps) draws.items → vec_capacity new_draws ≡ vec_capacity draws →
      IsKept job new_trail new_ends new_lasts new_draws
  kept_pop p kept trail_is trail_cap ends_is lasts_is lasts_cap draws_is draws_cap =
      let placed = new_trail.items in
      let P : List Placement → Placement → Type 0 = λ earlier q. MayPlace job earlier q.test q.start in
      let all = rw trail_is at kept.sound.placed in
      let may = each_last P placed p all in
      let inside = may.in_job in
      let steps = kept.draws_are ∙ ap (flat_map (draws_of job)) trail_is ∙ flat_map_push (draws_of job) placed p in
      let count = length-draws_from p.start (cycles_of job p.test) (test_at job p.test).steps in
      let total = length-append (flat_map (draws_of job) placed) (draws_of job p) in
      let front : length draws.items - length (test_at job p.test).steps ≡ length (flat_map (draws_of job) placed) = omega (arith, ap length steps, count, total) in
      record {
        sound = record { job = kept.sound.job; placed = each_front P placed (p ∷ []) all };
        ends_long = ap length ends_is ∙ length-set ends.items p.test None ∙ kept.ends_long;
        ends_are = (λ other lt. subst (λ v. get_or v other None ≡ end_in job placed other) (sym ends_is) (elim (cases_eq other p.test) [
          | inl same ↦ rw same (get_or-set_same ends.items p.test None None (omega arith) ∙ sym (end_none job placed p.test may.new))
          | inr apart ↦ get_or-set_other ends.items p.test other None None apart ∙ kept.ends_are other lt ∙ ap (λ v. end_in job v other) trail_is ∙ end_other job placed p other (λ e. apart (sym e))
        ]));
        lasts_long = (let one = ap length lasts_is in let same = kept.lasts_long in omega (arith, one, length-take (length placed) lasts.items, same, ap length trail_is, length-append placed (p ∷ [])));
        lasts_are = (λ i lt. rw lasts_is (get_or-take (length placed) lasts.items i 0 lt ∙ kept.lasts_are i (let same = ap length trail_is in omega (arith, lt, same, length-append placed (p ∷ []))) ∙ ap (λ v. last_end job (take (i + 1) v)) trail_is
            ∙ ap (last_end job) (take-append-le (i + 1) placed (p ∷ []) (omega arith))));
        draws_are = draws_is ∙ ap (λ n. take n draws.items) front ∙ ap (take (length (flat_map (draws_of job) placed))) steps ∙ take_at (flat_map (draws_of job) placed) (draws_of job p) (length (flat_map (draws_of job) placed)) refl;
        trail_room = (let room = kept.trail_room in omega (arith, room, trail_cap));
        lasts_room = (let room = kept.lasts_room in omega (arith, room, lasts_cap));
        draws_room = (let room = kept.draws_room in omega (arith, room, draws_cap));
      }

module _ {job : JobValue} {trail : SmallVec Placement} {ends : Vec (Option ℕ)} {lasts : Vec ℕ} {draws : Vec Draw} (kept : IsKept job trail ends lasts draws)
    (placed : List Placement) (p : Placement) (is : trail.items ≡ placed ++ p ∷ []) where
  -- the last test was placed where it might be, it is one of the job, and its draws are there
  pub last_may : MayPlace job placed p.test p.start
  last_may =
      let P : List Placement → Placement → Type 0 = λ earlier q. MayPlace job earlier q.test q.start in
      each_last P placed p (rw is at kept.sound.placed)

  pub last_inside : p.test < length job.tests
  last_inside = last_may.in_job

  -- the draws of the last test stand behind those of the others
  pub last_draws : draws.items ≡ flat_map (draws_of job) placed ++ draws_of job p
  last_draws = kept.draws_are ∙ ap (flat_map (draws_of job)) is ∙ flat_map_push (draws_of job) placed p

  pub last_steps : (wanted : TestValue) → wanted ≡ test_at job p.test → length wanted.steps ≤ length draws.items
  last_steps wanted wanted_at =
      let steps = kept.draws_are ∙ ap (flat_map (draws_of job)) is ∙ flat_map_push (draws_of job) placed p in
      let count = length-draws_from p.start (cycles_of job p.test) (test_at job p.test).steps in
      omega (arith, ap length steps, ap (λ (t : TestValue). length t.steps) wanted_at, count, length-append (flat_map (draws_of job) placed) (draws_of job p))
