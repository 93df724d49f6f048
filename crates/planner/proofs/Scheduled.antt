-- What the list schedule of the order that was found gives a plan.
use Rattle.std.proofs.Common.{◌≡◌, ℕ, ◌+◌, ◌<◌, ◌≤◌, ◌^◌, Bool, Some, List, [], ◌∷◌, ◌++◌, length, get_or, take, map, refl, sym, ◌∙◌, ap, arith, slice_get, All}
use Rattle.std.proofs.lemmas.List.{take_more, take-map, map-append, length-map}
use Rattle.std.proofs.lemmas.Option.{slice_get-get_or, slice_get-map, get_or_from_slice_get}
use Rattle.soc_model.specs.declared.TestId.{TestId}
use Rattle.soc_model.specs.Chips.{SocValue}
use Rattle.soc_model.specs.SoundChips.{IsSoundChip}
use Rattle.plan_model.specs.Plans.{LimitsValue}
use Rattle.plan_model.specs.Views.{bus_value, wrapper_value}
use Rattle.plan_model.proofs.Greatest.{le-greatest_at}
use Rattle.resource_table.specs.declared.Placement.{Placement}
use Rattle.resource_table.specs.declared.JobTest.{JobTest}
use Rattle.resource_table.specs.Jobs.{TestValue, JobValue, test_value, test_at, no_test, IsSoundJob}
use Rattle.resource_table.specs.Schedules.{end_of, last_end, IsSoundTable}
use Rattle.resource_table.proofs.Fitting.{last_small}
use Rattle.resource_table.proofs.KeptStarts.{wanted_is}
use Rattle.live_tests.proofs.LiveIds.{ids_differ}
use Rattle.schedule_search.specs.Orders.{IsTopological}
use Rattle.schedule_search.specs.Found.{HasStarts, IsFound}
use Rattle.schedule_search.proofs.PlacedOrders.{placed_has, placed_not}
use Rattle.schedule_search.proofs.CycleCounts.{takes_short}
use Rattle.planner.specs.declared.wiring.Wiring.{Wiring}
use Rattle.planner.specs.declared.schedule.Schedule.{Schedule}
use Rattle.planner.specs.Jobs.{settled_parts, job_of}
use Rattle.planner.specs.Schedules.{start_of, IsFoundList}
use Rattle.planner.specs.Wirings.{plan_of, IsScheduled}
use Rattle.planner.proofs.Planned.{keeps_times}
use Rattle.common_lemmas.proofs.Lists.{all_from, from_map}

-- ---- starts, one after another

pub found_inside : {job : JobValue} {budget : ℕ} {order starts : List ℕ} {cycles : ℕ} {complete : Bool} → IsFound job budget order starts cycles complete → All (λ test. test < length job.tests) order
found_inside found = all_from (λ test. test < length _) _ (λ k test at. (found.topological.ready k test at).in_job)

-- what the code reads of a test is what the job has
pub id_read : (tests : List JobTest) (test : ℕ) (here : JobTest) → test < length (map test_value tests) → here ≡ get_or tests test here → here.id ≡ (get_or (map test_value tests) test no_test).id
id_read tests test here inside is = ap (λ (t : TestValue). t.id) (wanted_is tests test here inside is)

no_placement : Placement
no_placement = record { test = 0; start = 0 }

-- the first starts of placed tests in this order, each with its test
abbrev pub AreFirstStarts : JobValue → (order starts : List ℕ) → ℕ → List (TestId × ℕ) → Type 0
AreFirstStarts job order starts count listed =
    (placed : List Placement) → map (λ (p : Placement). p.test) placed ≡ order → map (λ (p : Placement). p.start) placed ≡ starts → listed ≡ map (start_of job) (take count placed)

-- one start more
pub starts_more : (job : JobValue) (order starts : List ℕ) (k : ℕ) (listed listed' : List (TestId × ℕ)) (id : TestId) → length starts ≡ length order → k < length order → AreFirstStarts job order starts k listed → listed' ≡ listed ++ (id, get_or starts k 0) ∷ [] → id ≡ (test_at job (get_or order k 0)).id → AreFirstStarts job order starts (k + 1) listed'
starts_more job order starts k listed listed' id long within before more is placed in_order starts_are =
    let p : Placement = get_or placed k no_placement in
    let many : length placed ≡ length order = sym (length-map placed (λ (p : Placement). p.test)) ∙ ap length in_order in
    let at : slice_get placed k ≡ Some p = slice_get-get_or placed k no_placement (omega (arith, many, within)) in
    let test : get_or order k 0 ≡ p.test = get_or_from_slice_get order k p.test 0 (ap (λ (l : List ℕ). slice_get l k) (sym in_order) ∙ slice_get-map (λ (p : Placement). p.test) placed k ∙ rw at refl) in
    let start : get_or starts k 0 ≡ p.start = get_or_from_slice_get starts k p.start 0 (ap (λ (l : List ℕ). slice_get l k) (sym starts_are) ∙ slice_get-map (λ (p : Placement). p.start) placed k ∙ rw at refl) in
    let own : id ≡ (test_at job p.test).id = is ∙ ap (λ (n : ℕ). (test_at job n).id) test in
    more ∙ ap (λ (l : List (TestId × ℕ)). l ++ (id, get_or starts k 0) ∷ []) (before placed in_order starts_are)
    ∙ ap (λ (i : TestId). map (start_of job) (take k placed) ++ (i, get_or starts k 0) ∷ []) own ∙ ap (λ (n : ℕ). map (start_of job) (take k placed) ++ ((test_at job p.test).id, n) ∷ []) start
    ∙ sym (map-append (start_of job) (take k placed) (p ∷ [])) ∙ ap (map (start_of job)) (sym (take_more placed k no_placement (omega (arith, many, within))))

-- ---- what was found

-- a list schedule of a topological order stands in a sound table
sound_list : {job : JobValue} {order starts : List ℕ} {cycles : ℕ} → IsSoundJob job → IsTopological job order → (has : HasStarts job order starts cycles) → IsSoundTable (record { job = job; placed = has.placed })
sound_list {job} {order} {starts} {cycles} sound topological has = record {
  job = sound;
  placed = λ n p at.
      let there : slice_get order n ≡ Some p.test = rw (← has.in_order, slice_get-map (λ (p : Placement). p.test) has.placed n, at) refl in
      let ready = topological.ready n p.test there in
      let front : map (λ (p : Placement). p.test) (take n has.placed) ≡ take n order = sym (take-map (λ (p : Placement). p.test) n has.placed) ∙ ap (take n) has.in_order in
      let last = le-greatest_at (end_of job) has.placed n p at in
      let short = takes_short job order (last_end job has.placed) sound topological.ready (record { placed = has.placed; in_order = has.in_order; list = has.list; ends = refl }) in
      record {
        in_job = ready.in_job;
        new = placed_not (take n has.placed) (take n order) p.test front ready.new;
        ready = λ earlier before. placed_has (take n has.placed) (take n order) earlier front (ready.after earlier before);
        fits = (has.list n p at).fits;
        ends = omega (arith, last, short, sound.short);
      };
}

module _ (soc : SocValue) (limits : LimitsValue) (wiring : Wiring) (schedule : Schedule) (sound : IsSoundChip soc)
    (sound_job : IsSoundJob (job_of soc limits (settled_parts (map bus_value wiring.buses.items) (map wrapper_value wiring.wrappers.items))))
    (list : IsFoundList (job_of soc limits (settled_parts (map bus_value wiring.buses.items) (map wrapper_value wiring.wrappers.items))) limits.budget schedule.starts.items schedule.cycles) where
  abbrev job : JobValue
  job = job_of soc limits (settled_parts (map bus_value wiring.buses.items) (map wrapper_value wiring.wrappers.items))

  abbrev placed : List Placement
  placed = list.found.schedule.placed

  starts_are : schedule.starts.items ≡ map (start_of job) placed
  starts_are = list.are placed list.found.schedule.in_order (sym list.found.schedule.starts_are)

  table : IsSoundTable (record { job = job; placed = placed })
  table = sound_list sound_job list.found.topological list.found.schedule

  early : All (λ (s : TestId × ℕ). s.1 ≤ 10 ^ 18) schedule.starts.items
  early = all_from (λ (s : TestId × ℕ). s.1 ≤ 10 ^ 18) schedule.starts.items (λ k s at.
      let p = from_map (start_of job) placed k s (rw starts_are at at) in
      let ends = (table.placed k p.0 p.1).ends in
      let start = ap (λ (v : TestId × ℕ). v.1) p.2 in
      omega (arith, ends, start))

  pub scheduled : IsScheduled soc limits wiring schedule
  scheduled = record {
    found = λ bound. record {
      order = list.order;
      starts = list.starts;
      complete = list.complete;
      found = list.found;
      schedule = record { placed = placed; in_order = list.found.schedule.in_order; list = list.found.schedule.list; starts_are = starts_are; ends = list.found.schedule.ends };
    };
    keeps = λ bound. keeps_times soc limits (plan_of wiring schedule bound) placed (record { differ = ids_differ soc sound; sound = table; topological = rw list.found.schedule.in_order list.found.topological; starts_are = starts_are }) schedule.cycles list.found.schedule.ends;
    early = early;
    short = let small = last_small (record { job = job; placed = placed }) table in let ends = list.found.schedule.ends in omega (arith, small, ends);
  }
