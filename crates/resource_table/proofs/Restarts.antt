-- A table that is emptied for the same tests over other buses.
use Rattle.std.proofs.Common.{◌≡◌, ℕ, zero, suc, ◌+◌, ◌<◌, ◌≤◌, Option, None, Some, List, [], ◌∷◌, length, get_or, set, take, map, replicate, arith, refl, sym, ap, ◌∙◌}
use Rattle.std.specs.{Prelude.if◌then◌else◌, Prelude.IfSome, Prelude.vec_capacity, List.All, List.sum_by, Global.Vec}
use Rattle.std.proofs.lemmas.List.{length-map, get_or-map, map-set, take_all, Sums.sum_by-cons}
use Rattle.plan_model.specs.declared.TheConstants.{WIRES_MOST}
use Rattle.smallvec.specs.SmallVec.{SmallVec}
use Rattle.resource_table.specs.{declared.JobTest.JobTest, declared.table.Rows.Rows, declared.Placement.Placement, declared.history.History.History}
use Rattle.busy_times.specs.{declared.power.Draw.Draw, declared.points.Point.Point}
use Rattle.busy_times.specs.{declared.timelines.Timeline.Timeline, declared.timelines.Timelines.Timelines}
use Rattle.resource_table.specs.declared.empty_times.Kind.{Kind}
use Rattle.resource_table.specs.declared.empty_times.Kind.TheVariants.{Bus, Own, Children}
use Rattle.resource_table.specs.Jobs.{TestValue, JobValue, test_value, test_at, no_test, test_over, tests_over, job_over, IsSoundJob}
use Rattle.resource_table.specs.{Befores.AreListed, EmptyRows.AreEmptyRows, Histories.no_note, Histories.IsHistory, Kept.IsKept, Kept.IsProfiled, Kept.IsBounded}
use Rattle.resource_table.proofs.{Bounds.bounded_new, Latest.latest_over, PlacedTimes.times_new}
use Rattle.resource_table.proofs.KeptTables.{kept_new, profiled_new}
use Rattle.resource_table.specs.PlacedTimes.{takes, room_of, IsTimeline, AreTimelines, AreTimes, AreEmptyTimes}

-- ---- tests over other buses

pub length-tests_over : (buses : List (Option ℕ)) (lengths : List ℕ) (tests : List TestValue) → length (tests_over buses lengths tests) ≡ length tests
length-tests_over (bus ∷ buses) (cycles ∷ lengths) (t ∷ tests) = omega (arith, length-tests_over buses lengths tests)
length-tests_over (bus ∷ buses) (cycles ∷ lengths) [] = refl
length-tests_over (bus ∷ buses) [] tests = refl
length-tests_over [] lengths tests = refl

pub test_over_at : (buses : List (Option ℕ)) (lengths : List ℕ) (tests : List TestValue) (i : ℕ) → i < length tests → length buses ≡ length tests → length lengths ≡ length tests →
    get_or (tests_over buses lengths tests) i no_test ≡ test_over (get_or buses i None) (get_or lengths i 0) (get_or tests i no_test)
test_over_at (bus ∷ buses) (cycles ∷ lengths) (t ∷ tests) zero lt b l = refl
test_over_at (bus ∷ buses) (cycles ∷ lengths) (t ∷ tests) (suc i) lt b l = test_over_at buses lengths tests i (omega (arith, lt)) (omega (arith, b)) (omega (arith, l))
test_over_at (bus ∷ buses) (cycles ∷ lengths) [] i lt b l = absurd (omega (arith, lt))
test_over_at (bus ∷ buses) [] (t ∷ tests) i lt b l = absurd (omega (arith, l))
test_over_at (bus ∷ buses) [] [] i lt b l = absurd (omega (arith, lt))
test_over_at [] lengths (t ∷ tests) i lt b l = absurd (omega (arith, b))
test_over_at [] lengths [] i lt b l = absurd (omega (arith, lt))

-- the first `p` are over their buses, the others as they were: with the one at place `p` set, the first `p + 1` are
pub over_more : (buses : List (Option ℕ)) (lengths : List ℕ) (tests : List TestValue) (p : ℕ) → p < length tests → length buses ≡ length tests → length lengths ≡ length tests →
    tests_over (take (suc p) buses) (take (suc p) lengths) tests ≡ set (tests_over (take p buses) (take p lengths) tests) p (test_over (get_or buses p None) (get_or lengths p 0) (get_or tests p no_test))
over_more (bus ∷ buses) (cycles ∷ lengths) (t ∷ tests) zero lt b l = refl
over_more (bus ∷ buses) (cycles ∷ lengths) (t ∷ tests) (suc p) lt b l = ap (λ v. test_over bus cycles t ∷ v) (over_more buses lengths tests p (omega (arith, lt)) (omega (arith, b)) (omega (arith, l)))
over_more (bus ∷ buses) (cycles ∷ lengths) [] p lt b l = absurd (omega (arith, lt))
over_more (bus ∷ buses) [] (t ∷ tests) p lt b l = absurd (omega (arith, l))
over_more (bus ∷ buses) [] [] p lt b l = absurd (omega (arith, lt))
over_more [] lengths (t ∷ tests) p lt b l = absurd (omega (arith, b))
over_more [] lengths [] p lt b l = absurd (omega (arith, lt))

pub not_over_yet : (buses : List (Option ℕ)) (lengths : List ℕ) (tests : List TestValue) (p : ℕ) → length buses ≡ length tests → length lengths ≡ length tests → get_or (tests_over (take p buses) (take p lengths) tests) p no_test ≡ get_or tests p no_test
not_over_yet (bus ∷ buses) (cycles ∷ lengths) (t ∷ tests) zero b l = refl
not_over_yet (bus ∷ buses) (cycles ∷ lengths) (t ∷ tests) (suc p) b l = not_over_yet buses lengths tests p (omega (arith, b)) (omega (arith, l))
not_over_yet (bus ∷ buses) (cycles ∷ lengths) [] p b l = absurd (omega (arith, b))
not_over_yet (bus ∷ buses) [] tests p b l = absurd (omega (arith, b, l))
not_over_yet [] (cycles ∷ lengths) tests p b l = absurd (omega (arith, b, l))
not_over_yet [] [] (t ∷ tests) p b l = absurd (omega (arith, b))
not_over_yet [] [] [] zero b l = refl
not_over_yet [] [] [] (suc p) b l = refl

module _ (initial now : List JobTest) (buses : List (Option ℕ)) (lengths : List ℕ) (p : ℕ) where
  -- one test more is sent over
  pub sent_one : (d new : JobTest) → p < length now → length buses ≡ length initial → length lengths ≡ length initial →
      map test_value now ≡ tests_over (take p buses) (take p lengths) (map test_value initial) →
      test_value new ≡ test_over (get_or buses p None) (get_or lengths p 0) (test_value (get_or now p d)) →
      map test_value (set now p new) ≡ tests_over (take (p + 1) buses) (take (p + 1) lengths) (map test_value initial)
  sent_one d new lt b l is new_is =
      let values = map test_value initial in
      let long = sym (length-map now test_value) ∙ ap length is ∙ length-tests_over (take p buses) (take p lengths) values ∙ length-map initial test_value in
      let b' = b ∙ sym (length-map initial test_value) in
      let l' = l ∙ sym (length-map initial test_value) in
      let here = sym (get_or-map test_value now p d no_test lt) ∙ ap (λ v. get_or v p no_test) is ∙ not_over_yet buses lengths values p b' l' in
      map-set test_value now p new ∙ ap (λ v. set v p (test_value new)) is
      ∙ ap (set (tests_over (take p buses) (take p lengths) values) p) (new_is ∙ ap (test_over (get_or buses p None) (get_or lengths p 0)) here)
      ∙ sym (over_more buses lengths values p (omega (arith, lt, long, length-map initial test_value)) b' l')
      ∙ ap (λ n. tests_over (take n buses) (take n lengths) values) (let e : suc p ≡ p + 1 = omega arith in e)

  pub sent_all : length now ≤ p → length now ≡ length initial → length buses ≡ length initial → length lengths ≡ length initial →
      map test_value now ≡ tests_over (take p buses) (take p lengths) (map test_value initial) → map test_value now ≡ tests_over buses lengths (map test_value initial)
  sent_all le same b l is =
      is ∙ ap (λ v. tests_over v (take p lengths) (map test_value initial)) (take_all p buses (omega (arith, le, same, b)))
      ∙ ap (λ v. tests_over buses v (map test_value initial)) (take_all p lengths (omega (arith, le, same, l)))

-- whatever is summed up over the tests and knows neither bus nor cycles stays
pub sum_over : (f : TestValue → ℕ) → ((bus : Option ℕ) (cycles : ℕ) (t : TestValue) → f (test_over bus cycles t) ≡ f t) → (buses : List (Option ℕ)) (lengths : List ℕ) (tests : List TestValue) → sum_by f (tests_over buses lengths tests) ≡ sum_by f tests
sum_over f same (bus ∷ buses) (cycles ∷ lengths) (t ∷ tests) = omega (arith, sum_by-cons f (test_over bus cycles t) (tests_over buses lengths tests), sum_by-cons f t tests, same bus cycles t, sum_over f same buses lengths tests)
sum_over f same (bus ∷ buses) (cycles ∷ lengths) [] = refl
sum_over f same (bus ∷ buses) [] tests = refl
sum_over f same [] lengths tests = refl

-- ---- timelines without times

no_times : (job : JobValue) (kind : Kind) (k : ℕ) (line : Timeline) → IsTimeline job [] kind k line → (other : JobValue) → room_of kind k other.tests ≡ room_of kind k job.tests → IsTimeline other [] kind k line
no_times job kind k line is other same = record {
  starts = is.starts;
  ends = is.ends;
  sums = is.sums;
  room = omega (arith, is.room, same);
}

module _ (job : JobValue) (buses : List (Option ℕ)) (lengths : List ℕ) (buses_long : length buses ≡ length job.tests) (lengths_long : length lengths ≡ length job.tests) where
  abbrev other : JobValue
  other = job_over buses lengths job

  at_place : (test : ℕ) → test < length other.tests → test_at other test ≡ test_over (get_or buses test None) (get_or lengths test 0) (test_at job test)
  at_place test inside = test_over_at buses lengths job.tests test (omega (arith, inside, length-tests_over buses lengths job.tests)) buses_long lengths_long

  bus_lines : All (λ bus. IfSome bus (λ k. k < WIRES_MOST)) buses → (lines : List Timeline) → AreTimelines job [] Bus lines → AreTimelines other [] Bus lines
  bus_lines few lines are = record {
    many = are.many;
    reach = (λ test k inside is.
        let here = sym (ap (λ (t : TestValue). t.bus) (at_place test inside)) ∙ is in
        let less = rw here at (few test None (omega (arith, inside, length-tests_over buses lengths job.tests, buses_long))) in
        omega (arith, less, are.many));
    each = (λ k line at. no_times job Bus k line (are.each k line at) other (length-tests_over buses lengths job.tests));
  }

  own_lines : (lines : List Timeline) → AreTimelines job [] Own lines → AreTimelines other [] Own lines
  own_lines lines are = record {
    many = are.many;
    reach = (λ test k inside is. are.reach test k (omega (arith, inside, length-tests_over buses lengths job.tests)) (sym (ap (λ (t : TestValue). Some t.place) (at_place test inside)) ∙ is));
    each = (λ k line at. no_times job Own k line (are.each k line at) other (sum_over (λ t. if takes Own k t then 1 else 0) (λ bus cycles t. refl) buses lengths job.tests));
  }

  child_lines : (lines : List Timeline) → AreTimelines job [] Children lines → AreTimelines other [] Children lines
  child_lines lines are = record {
    many = are.many;
    reach = (λ test k inside is. are.reach test k (omega (arith, inside, length-tests_over buses lengths job.tests)) (sym (ap (λ (t : TestValue). t.parent) (at_place test inside)) ∙ is));
    each = (λ k line at. no_times job Children k line (are.each k line at) other (sum_over (λ t. if takes Children k t then 1 else 0) (λ bus cycles t. refl) buses lengths job.tests));
  }

  pub times_over : All (λ bus. IfSome bus (λ k. k < WIRES_MOST)) buses → (times : Timelines) → AreTimes job [] times → AreTimes other [] times
  times_over few times are = record {
    buses = bus_lines few times.buses.items are.buses;
    modules = own_lines times.modules.items are.modules;
    children = child_lines times.children.items are.children;
    latest = latest_over job other (length times.children.items) times.latest (length-tests_over buses lengths job.tests) are.latest;
  }

-- ---- what else a table keeps

-- rows whose items are all taken out, with the room that they had
pub rows_emptied : {job : JobValue} {trail : SmallVec Placement} {ends : Vec (Option ℕ)} {lasts : Vec ℕ} {draws : Vec Draw} {points : Vec Point} {bounds : History} → IsKept job trail ends lasts draws → IsProfiled job trail draws points → IsBounded job trail.items bounds → (rows : Rows) →
    rows.trail.items ≡ [] → rows.trail.capacity ≡ trail.capacity → rows.ends.items ≡ replicate (length ends.items) None → rows.lasts.items ≡ [] → vec_capacity rows.lasts ≡ vec_capacity lasts → rows.draws.items ≡ [] → vec_capacity rows.draws ≡ vec_capacity draws →
    rows.points.items ≡ [] → vec_capacity rows.points ≡ vec_capacity points → rows.bounds.values.items ≡ replicate (length bounds.values.items) no_note → rows.bounds.marks.items ≡ [] → IsHistory rows.bounds → vec_capacity rows.bounds.marks ≡ vec_capacity bounds.marks →
    AreEmptyRows (length job.tests) (sum_by (λ (t : TestValue). length t.steps) job.tests) rows
rows_emptied {job} {trail} {ends} {lasts} {draws} {points} {bounds} kept profiled bounded rows trail_is trail_room ends_is lasts_is lasts_room draws_is draws_room points_is points_room values marks history marks_room = record {
  trail = trail_is;
  trail_room = (let room = kept.trail_room in omega (arith, room, trail_room));
  ends = ends_is ∙ ap (λ n. replicate n None) kept.ends_long;
  lasts = lasts_is;
  lasts_room = (let room = kept.lasts_room in omega (arith, room, lasts_room));
  draws = draws_is;
  draws_room = (let room = kept.draws_room in omega (arith, room, draws_room));
  points = points_is;
  points_room = (let room = profiled.room in omega (arith, room, points_room));
  notes = values ∙ ap (λ n. replicate n no_note) bounded.long;
  marks = marks;
  history = history;
  marks_room = (let room = bounded.room in omega (arith, room, marks_room));
}

module _ (job : JobValue) (buses : List (Option ℕ)) (lengths : List ℕ) where
  abbrev new_job : JobValue
  new_job = job_over buses lengths job

  listed_over : (lists : List (List ℕ)) → AreListed job lists → AreListed new_job lists
  listed_over lists are =
      let same = length-tests_over buses lengths job.tests in
      record { long = are.long ∙ sym same; are = (λ test lt. are.are test (omega (arith, lt, same))) }

  -- where nothing is placed, all that is kept is as it would be built for the job with the other buses
  pub kept_anew : IsSoundJob new_job → length buses ≡ length job.tests → length lengths ≡ length job.tests → All (λ bus. IfSome bus (λ k. k < WIRES_MOST)) buses →
      (rows : Rows) → AreEmptyRows (length job.tests) (sum_by (λ (t : TestValue). length t.steps) job.tests) rows → (lists : List (List ℕ)) → AreListed job lists → (times : Timelines) → AreEmptyTimes job.tests times →
      IsKept new_job rows.trail rows.ends rows.lasts rows.draws × AreListed new_job lists × IsProfiled new_job rows.trail rows.draws rows.points × AreTimes new_job rows.trail.items times × IsBounded new_job rows.trail.items rows.bounds
  kept_anew sound buses_long lengths_long few rows empty lists listed times none =
      let tests = sym (length-tests_over buses lengths job.tests) in
      let steps = sym (sum_over (λ (t : TestValue). length t.steps) (λ bus cycles t. refl) buses lengths job.tests) in (
        kept_new new_job rows.trail rows.ends rows.lasts rows.draws (length job.tests) (sum_by (λ (t : TestValue). length t.steps) job.tests) sound tests steps empty.trail empty.trail_room empty.ends empty.lasts empty.lasts_room empty.draws empty.draws_room,
        listed_over lists listed,
        profiled_new new_job rows.trail rows.draws rows.points (length job.tests) (sum_by (λ (t : TestValue). length t.steps) job.tests) tests steps empty.trail empty.draws empty.points empty.points_room,
        rw empty.trail (times_over job buses lengths buses_long lengths_long few times (times_new job times none)),
        bounded_new new_job rows.trail.items rows.bounds (length job.tests) empty.trail tests empty.notes empty.marks empty.history empty.marks_room,
      )
