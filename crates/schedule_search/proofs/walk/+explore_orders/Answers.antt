use Rattle.std.proofs.Common.{◌≡◌, ◌∙◌, ℕ, ◌+◌, ◌-◌, ◌*◌, ◌^◌, ◌<◌, ◌≤◌, ◌++◌, ◌∷◌, [], List, false, length, length-append, get_or, max, vec_capacity, refl, sym, ap, subst, arith, rules, IfSome}
use Rattle.std.proofs.lemmas.Option.{get_or_from_slice_get}
use Rattle.resource_table.specs.Jobs.{JobValue, job_value, cycles_of, IsSoundJob}
use Rattle.resource_table.specs.Schedules.{TableValue, at_start, is_placed, MayPlace, IsSoundTable}
use Rattle.schedule_search.specs.declared.walk.Progress.{Progress}
use Rattle.schedule_search.specs.OrderCycles.{HasPlaced, Takes}
use Rattle.schedule_search.specs.Orders.{IsReady, IsTopological}
use Rattle.schedule_search.specs.Walks.{may_follow, IsOpen}
use Rattle.schedule_search.specs.Prefixes.{outside, followers, IsAt, IsOut}
use Rattle.schedule_search.specs.Taken.{IsTakenOut}
use Rattle.schedule_search.specs.Late.{AreInTime, IsSeen}
use Rattle.schedule_search.specs.Progress.{stand_of, AtMostFirst, NoneBefore}
use Rattle.resource_table.proofs.Placed.{each_last}
use Rattle.schedule_search.proofs.PlacedOrders.{takes_placed}
use Rattle.schedule_search.proofs.Following.{ready_to, not_in, unplaced_in}
use Rattle.schedule_search.proofs.Outside.{few_follow, passing_order, unplaced_outside}
use Rattle.schedule_search.proofs.Bests.{none_before_more}
use Rattle.schedule_search.proofs.Stepping.{at_own, out_own}
use Rattle.schedule_search.proofs.Taking.{some_free}
use Rattle.schedule_search.proofs.Explorings.{best_refused, best_entered, best_offered, path_topological, explored_refused, explored_whole, explored_left, explored_entered, taken_out, followed, child_of, walk_stopped, walk_ended, may_place, one_placed, open_below, none_before_rest, taken_back, none_left, some_left}
use Rattle.schedule_search.proofs.Lateness.{seen_more}
use Rattle.std.proofs.lemmas.Bool.{false≢true}
use Rattle.schedule_search.proofs.walk.+explore_orders.Goals as goal

-- ---- explore_orders

pub explore_orders-returns-then-not-enter_prefix-clause-best : goal.explore_orders-returns-then-not-enter_prefix-clause-best
explore_orders-returns-then-not-enter_prefix-clause-best g t c = best_refused (job_value c.args.job.now) c.args.progress.now c.enter_prefix.new.progress (c.enter_prefix.ensures.refused c.if-not-enter_prefix.true).1 c.requires.best

pub explore_orders-returns-then-not-enter_prefix-clause-explored : goal.explore_orders-returns-then-not-enter_prefix-clause-explored
explore_orders-returns-then-not-enter_prefix-clause-explored g t c =
    let path : List ℕ = c.args.prefix.now.tests.items in
    explored_refused (job_value c.args.job.now) c.args.tries.now.budget (length (job_value c.args.job.now).tests - length path) path c.args.progress.now c.enter_prefix.new.progress (c.enter_prefix.ensures.refused c.if-not-enter_prefix.true).1 (c.enter_prefix.ensures.refused c.if-not-enter_prefix.true).0 c.requires.opened

pub explore_orders-returns-then-is_empty-clause-best : goal.explore_orders-returns-then-is_empty-clause-best
explore_orders-returns-then-is_empty-clause-best g t c =
    let job = job_value c.args.job.now in
    let path : List ℕ = c.args.prefix.now.tests.items in
    let empty : length c.args.prefix.now.rest.items ≡ 0 = sym c.args.prefix.now.rest.ok.0 ∙ none_left c.args.prefix.now.rest.len c.is_empty.result c.is_empty.ensures c.if-is_empty.true in
    let long : length path ≡ length job.tests = omega (arith, empty, ap length c.requires.at.rest_are, c.requires.at.left) in
    let is = c.deref.ensures.value in
    best_offered job c.deref.result.now c.args.progress.now c.enter_prefix.new.progress c.offer_order.new.progress c.args.from.end (c.enter_prefix.ensures.entered c.if-not-enter_prefix.false).1
    (subst (IsTopological job) (sym is) (path_topological c.args.table.now job path c.args.from.end c.requires.job c.requires.sound c.requires.placed long))
    (subst (λ (l : List ℕ). Takes job l c.args.from.end) (sym is) (takes_placed c.args.table.now job path c.args.from.end c.requires.job c.requires.placed))
    c.offer_order.ensures.fewer c.offer_order.ensures.kept c.requires.best

pub explore_orders-returns-then-is_empty-clause-explored : goal.explore_orders-returns-then-is_empty-clause-explored
explore_orders-returns-then-is_empty-clause-explored g t c =
    let job = job_value c.args.job.now in
    let path : List ℕ = c.args.prefix.now.tests.items in
    let empty : length c.args.prefix.now.rest.items ≡ 0 = sym c.args.prefix.now.rest.ok.0 ∙ none_left c.args.prefix.now.rest.len c.is_empty.result c.is_empty.ensures c.if-is_empty.true in
    let none : length job.tests - length path ≡ 0 = omega (arith, empty, ap length c.requires.at.rest_are, c.requires.at.left) in
    explored_whole job c.args.tries.now.budget (length job.tests - length path) path c.args.progress.now c.enter_prefix.new.progress c.offer_order.new.progress c.args.from.end none (c.enter_prefix.ensures.entered c.if-not-enter_prefix.false).1
    (takes_placed c.args.table.now job path c.args.from.end c.requires.job c.requires.placed)
    (λ less. c.offer_order.ensures.fewer less ∙ ap (λ (l : List ℕ). record (stand_of c.enter_prefix.new.progress) { best = l; cycles = c.args.from.end }) c.deref.ensures.value) c.offer_order.ensures.kept c.requires.opened c.requires.going c.requires.none_before

pub explore_orders-is_over-requires-clause-rest : goal.explore_orders-is_over-requires-clause-rest
explore_orders-is_over-requires-clause-rest g t c =
    let path : List ℕ = c.args.prefix.now.tests.items in
    unplaced_outside c.args.table.now.job c.args.table.now.placed path c.deref-2.result.now c.requires.placed.in_order (c.deref-2.ensures.value ∙ c.requires.at.rest_are ∙ ap (λ (j : JobValue). outside j path) (sym c.requires.job))

pub explore_orders-returns-then-is_over-clause-best : goal.explore_orders-returns-then-is_over-clause-best
explore_orders-returns-then-is_over-clause-best g t c = best_entered (job_value c.args.job.now) c.args.progress.now c.enter_prefix.new.progress (c.enter_prefix.ensures.entered c.if-not-enter_prefix.false).1 c.requires.best

pub explore_orders-returns-then-is_over-clause-explored : goal.explore_orders-returns-then-is_over-clause-explored
explore_orders-returns-then-is_over-clause-explored g t c =
    let path : List ℕ = c.args.prefix.now.tests.items in
    explored_left c.args.table.now (job_value c.args.job.now) c.args.tries.now.budget (length (job_value c.args.job.now).tests - length path) path c.args.from.end c.args.progress.now c.enter_prefix.new.progress
    c.requires.job c.requires.sound c.requires.placed (c.is_over.ensures.late c.if-is_over.true) (c.enter_prefix.ensures.entered c.if-not-enter_prefix.false).1 c.requires.opened c.requires.going c.requires.none_before

pub explore_orders-take_out-taken-requires-clause-within : goal.explore_orders-take_out-taken-requires-clause-within
explore_orders-take_out-taken-requires-clause-within g t c =
    let job = job_value c.args.job.now in
    let path : List ℕ = c.args.prefix.now.tests.items in
    let some : 0 < length c.args.prefix.now.rest.items = subst (λ (n : ℕ). 0 < n) c.args.prefix.now.rest.ok.0 (some_left c.args.prefix.now.rest.len c.is_empty.result c.is_empty.ensures c.if-is_empty.false) in
    let free = some_free job path (subst IsSoundJob c.requires.job c.requires.sound.job) (omega (arith, some, ap length c.requires.at.rest_are)) in
    omega (arith, free, ap length c.requires.at.free_are)

pub explore_orders-loop-place-init : goal.explore_orders-loop-place-init
explore_orders-loop-place-init g t c =
    let job = job_value c.args.job.now in
    let path : List ℕ = c.args.prefix.now.tests.items in
    let entered = c.enter_prefix.ensures.entered c.if-not-enter_prefix.false in
    let same : c.enter_prefix.new.progress.best.items ≡ c.args.progress.now.best.items = ap (λ (x : Progress). x.best.items) entered.1 in
    let some : 0 < length c.args.prefix.now.rest.items = subst (λ (n : ℕ). 0 < n) c.args.prefix.now.rest.ok.0 (some_left c.args.prefix.now.rest.len c.is_empty.result c.is_empty.ensures c.if-is_empty.false) in
    let short : length path ≡ length job.tests → ⊥ = λ long. omega (arith, long, some, ap length c.requires.at.rest_are, c.requires.at.left) in
    let free = some_free job path (subst IsSoundJob c.requires.job c.requires.sound.job) (omega (arith, some, ap length c.requires.at.rest_are)) in
    record {
      table = c.is_over.ensures.same;
      few = omega arith;
      out = λ _. c.take_out-taken.ensures.out;
      taken_out = λ _. c.take_out-taken.ensures.taken_out;
      back = λ none. absurd (omega (arith, none, free));
      best_room = refl;
      going = ap (λ (x : Progress). x.refused) entered.1 ∙ c.requires.going;
      within = (let less = entered.0 in let is : c.enter_prefix.new.progress.entered ≡ c.args.progress.now.entered + 1 = ap (λ (x : Progress). x.entered) entered.1 in omega (arith, less, is));
      best = best_entered job c.args.progress.now c.enter_prefix.new.progress entered.1 c.requires.best;
      none_before = λ later from within. subst (NoneBefore job (path ++ get_or (followers job path) later 0 ∷ [])) (sym same) (none_before_more job path c.args.progress.now.best.items (get_or (followers job path) later 0) c.requires.none_before);
      explored = explored_entered job c.args.tries.now.budget (length job.tests - length path - 1) path c.args.progress.now c.enter_prefix.new.progress entered.1 c.requires.opened c.requires.going short;
    }

pub explore_orders-go_on-requires : goal.explore_orders-go_on-requires
explore_orders-go_on-requires g t c κs within_measure =
    let job = job_value c.args.job.now in
    let path : List ℕ = c.args.prefix.now.tests.items in
    let inv = c.loop-place.invariant in
    let place : ℕ = c.loop-place.place in
    let test : ℕ = c.loop-place.taken.test in
    let now : List ℕ = c.loop-place.prefix.tests.items in
    let entered = c.enter_prefix.ensures.entered c.if-not-enter_prefix.false in
    let within' : place < length (followers job path) = omega (arith, c.loop-place-test.true, c.len-count.ensures, c.args.prefix.now.free.ok.0, ap length c.requires.at.free_are) in
    let has = inv.out within' in
    let now_is : now ≡ path = has.tests_are in
    let test_is : get_or (followers job path) place 0 ≡ test = get_or_from_slice_get (followers job path) place test 0 (inv.taken_out within').free_at in
    let job_is : c.loop-place.table.job ≡ job = ap (λ (v : TableValue). v.job) inv.table ∙ c.requires.job in
    let sound : IsSoundTable c.loop-place.table = subst IsSoundTable (sym inv.table) c.requires.sound in
    let placed : HasPlaced c.loop-place.table now c.args.from.end = subst (λ (l : List ℕ). HasPlaced c.loop-place.table l c.args.from.end) (sym now_is) (subst (λ (v : TableValue). HasPlaced v path c.args.from.end) (sym inv.table) c.requires.placed) in
    let out : IsOut job now test c.loop-place.prefix = out_own job path test c.loop-place.prefix has in
    let best_room : length job.tests ≤ vec_capacity c.loop-place.progress.best = omega (arith, c.requires.best_room, inv.best_room, ap (λ (p : Progress). vec_capacity p.best) entered.1) in
    let cycles_same : c.enter_prefix.new.progress.cycles ≡ c.args.progress.now.cycles = ap (λ (p : Progress). p.cycles) entered.1 in
    let most : AtMostFirst job c.enter_prefix.new.progress.cycles = subst (AtMostFirst job) (sym cycles_same) c.requires.best.at_most_first in
    let opened : IsOpen job (now ++ test ∷ []) = open_below c.args.table.now job path (now ++ test ∷ []) c.args.from.end c.enter_prefix.new.progress.cycles test c.requires.job c.requires.placed (c.is_over.ensures.in_time c.if-is_over.false) most c.requires.opened (ap (λ (l : List ℕ). l ++ test ∷ []) now_is) in
    let none_before : NoneBefore job (now ++ test ∷ []) c.loop-place.progress.best.items = subst (λ (l : List ℕ). NoneBefore job (l ++ test ∷ []) c.loop-place.progress.best.items) (sym now_is) (subst (λ (n : ℕ). NoneBefore job (path ++ n ∷ []) c.loop-place.progress.best.items) test_is (inv.none_before place (omega arith) within')) in
    let measure : (length job.tests - length now) * 2 < (length job.tests - length path) * 2 + 1 = omega (arith, ap length now_is) in
    let in_time : AreInTime c.loop-place.table c.enter_prefix.new.progress.cycles = subst (λ (v : TableValue). AreInTime v c.enter_prefix.new.progress.cycles) (sym inv.table) (c.is_over.ensures.in_time c.if-is_over.false) in
    (search rules, (within_measure.0, (within_measure.1, (job_is, (sound, (c.requires.tries, (c.requires.estimates, (placed, (out, (in_time, (best_room, (inv.going, (inv.within, (opened, (inv.best, none_before)))))))))))))))

pub explore_orders-returns-then-progress-clause-explored : goal.explore_orders-returns-then-progress-clause-explored
explore_orders-returns-then-progress-clause-explored g t c =
    let job = job_value c.args.job.now in
    let path : List ℕ = c.args.prefix.now.tests.items in
    let inv = c.loop-place.invariant in
    let place : ℕ = c.loop-place.place in
    let test : ℕ = c.loop-place.taken.test in
    let more : ℕ = length job.tests - length path - 1 in
    let within' : place < length (followers job path) = omega (arith, c.loop-place-test.true, c.len-count.ensures, c.args.prefix.now.free.ok.0, ap length c.requires.at.free_are) in
    let test_is : get_or (followers job path) place 0 ≡ test = get_or_from_slice_get (followers job path) place test 0 (inv.taken_out within').free_at in
    let child = child_of job c.args.tries.now.budget path c.loop-place.prefix.tests.items test (stand_of c.loop-place.progress) (stand_of c.go_on.new.progress) (inv.out within').tests_are c.go_on.ensures.explored in
    let done = taken_out job c.args.tries.now.budget more path place test (stand_of c.args.progress.now) (stand_of c.loop-place.progress) (stand_of c.go_on.new.progress) within' (sym test_is) inv.going inv.explored child in
    let some : 0 < length job.tests - length path = omega (arith, within', few_follow job path, c.requires.at.left) in
    walk_stopped job c.args.tries.now.budget (length job.tests - length path) path (place + 1) (stand_of c.args.progress.now) (stand_of c.go_on.new.progress) some c.if-progress.true done

pub explore_orders-pass-taken-requires : goal.explore_orders-pass-taken-requires
explore_orders-pass-taken-requires g t c =
    let job = job_value c.args.job.now in
    let path : List ℕ = c.args.prefix.now.tests.items in
    let inv = c.loop-place.invariant in
    let place : ℕ = c.loop-place.place in
    let test : ℕ = c.loop-place.taken.test in
    let within' : place < length (followers job path) = omega (arith, c.loop-place-test.true, c.len-count.ensures, c.args.prefix.now.free.ok.0, ap length c.requires.at.free_are) in
    let out = c.go_on.ensures.out c.if-progress.false in
    let own : c.go_on.new.prefix.tests.items ≡ path = out.tests_are ∙ (inv.out within').tests_are in
    record {
      out = out_own job c.loop-place.prefix.tests.items test c.go_on.new.prefix out;
      taken_out = subst (λ (l : List ℕ). IsTakenOut job l place c.loop-place.taken) (sym own) (inv.taken_out within');
    }

pub explore_orders-loop-place-preserved : goal.explore_orders-loop-place-preserved
explore_orders-loop-place-preserved g t c =
    let job = job_value c.args.job.now in
    let path : List ℕ = c.args.prefix.now.tests.items in
    let inv = c.loop-place.invariant in
    let place : ℕ = c.loop-place.place in
    let test : ℕ = c.loop-place.taken.test in
    let more : ℕ = length job.tests - length path - 1 in
    let within' : place < length (followers job path) = omega (arith, c.loop-place-test.true, c.len-count.ensures, c.args.prefix.now.free.ok.0, ap length c.requires.at.free_are) in
    let test_is : get_or (followers job path) place 0 ≡ test = get_or_from_slice_get (followers job path) place test 0 (inv.taken_out within').free_at in
    let out = c.go_on.ensures.out c.if-progress.false in
    let own : c.go_on.new.prefix.tests.items ≡ path = out.tests_are ∙ (inv.out within').tests_are in
    let long : length (followers job c.go_on.new.prefix.tests.items) ≡ length (followers job path) = ap (λ (l : List ℕ). length (followers job l)) own in
    let child = child_of job c.args.tries.now.budget path c.loop-place.prefix.tests.items test (stand_of c.loop-place.progress) (stand_of c.go_on.new.progress) (inv.out within').tests_are c.go_on.ensures.explored in
    let others = none_before_rest job more path (followers job path) place test (stand_of c.loop-place.progress) (stand_of c.go_on.new.progress) (passing_order job (may_follow job path)) (sym test_is) inv.none_before child.best in
    record {
      table = c.go_on.ensures.table ∙ inv.table;
      few = omega (arith, within');
      out = λ less. subst (λ (l : List ℕ). IsOut job l c.pass-taken.result.test c.pass-taken.new.self) own (c.pass-taken.ensures.out (omega (arith, less, long)));
      taken_out = λ less. subst (λ (l : List ℕ). IsTakenOut job l (place + 1) c.pass-taken.result) own (c.pass-taken.ensures.taken_out (omega (arith, less, long)));
      back = λ all. subst (λ (l : List ℕ). IsAt job l c.pass-taken.new.self) own (c.pass-taken.ensures.back (omega (arith, all, long)));
      best_room = c.go_on.ensures.best_room ∙ inv.best_room;
      going = c.if-progress.false;
      within = c.go_on.ensures.within;
      best = c.go_on.ensures.best;
      none_before = λ later from inside. others later (omega (arith, from)) inside;
      explored = taken_out job c.args.tries.now.budget more path place test (stand_of c.args.progress.now) (stand_of c.loop-place.progress) (stand_of c.go_on.new.progress) within' (sym test_is) inv.going inv.explored child;
    }

pub explore_orders-loop-place-smaller : goal.explore_orders-loop-place-smaller
explore_orders-loop-place-smaller g t c =
    let job = job_value c.args.job.now in
    let path : List ℕ = c.args.prefix.now.tests.items in
    let within' : c.loop-place.place < length (followers job path) = omega (arith, c.loop-place-test.true, c.len-count.ensures, c.args.prefix.now.free.ok.0, ap length c.requires.at.free_are) in
    omega (arith, within')

pub explore_orders-returns-clause-at : goal.explore_orders-returns-clause-at
explore_orders-returns-clause-at g t c = λ going.
    let job = job_value c.args.job.now in
    let path : List ℕ = c.args.prefix.now.tests.items in
    c.loop-place.invariant.back (omega (arith, c.loop-place-test.false, c.loop-place.invariant.few, c.len-count.ensures, c.args.prefix.now.free.ok.0, ap length c.requires.at.free_are))

pub explore_orders-returns-clause-room : goal.explore_orders-returns-clause-room
explore_orders-returns-clause-room g t c =
    (c.loop-place.invariant.back (omega (arith, c.loop-place-test.false, c.loop-place.invariant.few, c.len-count.ensures, c.args.prefix.now.free.ok.0, ap length c.requires.at.free_are))).has_room

pub explore_orders-returns-clause-explored : goal.explore_orders-returns-clause-explored
explore_orders-returns-clause-explored g t c =
    let job = job_value c.args.job.now in
    let path : List ℕ = c.args.prefix.now.tests.items in
    let some : 0 < length c.args.prefix.now.rest.items = subst (λ (n : ℕ). 0 < n) c.args.prefix.now.rest.ok.0 (some_left c.args.prefix.now.rest.len c.is_empty.result c.is_empty.ensures c.if-is_empty.false) in
    let all : c.loop-place.place ≡ length (followers job path) = omega (arith, c.loop-place-test.false, c.loop-place.invariant.few, c.len-count.ensures, c.args.prefix.now.free.ok.0, ap length c.requires.at.free_are) in
    walk_ended job c.args.tries.now.budget (length job.tests - length path) path c.loop-place.place (stand_of c.args.progress.now) (stand_of c.loop-place.progress) (omega (arith, some, ap length c.requires.at.rest_are, c.requires.at.left)) all c.loop-place.invariant.explored

-- ---- go_on

pub go_on-noted_start-start-requires : goal.go_on-noted_start-start-requires
go_on-noted_start-start-requires g t c =
    let test : ℕ = c.args.next.test in
    let last = each_last (IsReady (job_value c.args.job.now)) c.args.prefix.now.tests.items test c.requires.out.ready in
    record { in_job = subst (λ (j : JobValue). test < length j.tests) (sym c.requires.job) last.in_job }

pub go_on-cycles_at-requires : goal.go_on-cycles_at-requires
go_on-cycles_at-requires g t c = (each_last (IsReady (job_value c.args.job.now)) c.args.prefix.now.tests.items c.args.next.test c.requires.out.ready).in_job

pub go_on-place-frame-requires : goal.go_on-place-frame-requires
go_on-place-frame-requires g t c =
    let job = job_value c.args.job.now in
    let path : List ℕ = c.args.prefix.now.tests.items in
    let test : ℕ = c.args.next.test in
    let last = each_last (IsReady job) path test c.requires.out.ready in
    let free = may_place c.args.table.now job path c.args.next.end test c.noted_start-start.result c.requires.job c.requires.sound c.requires.placed last.in_job (ready_to job path test last) c.noted_start-start.ensures.earliest in
    let inside : test < length c.args.table.now.job.tests = subst (λ (j : JobValue). test < length j.tests) (sym c.requires.job) last.in_job in
    let new : is_placed c.args.table.now.placed test ≡ false = unplaced_in c.args.table.now.placed path test c.requires.placed.in_order (not_in path test last.new) in
    let placed : MayPlace c.args.table.now.job c.args.table.now.placed test c.noted_start-start.result = free (c.list_schedules_are_short.ensures.fits c.args.table.now test c.noted_start-start.result c.requires.sound c.requires.placed.list inside new c.noted_start-start.ensures.earliest) in
    subst (λ (t : TableValue). MayPlace t.job t.placed test c.noted_start-start.result) (sym c.noted_start-start.ensures.same) placed

pub go_on-overflow_add-start : goal.go_on-overflow_add-start
go_on-overflow_add-start g t c =
    let job = job_value c.args.job.now in
    let path : List ℕ = c.args.prefix.now.tests.items in
    let test : ℕ = c.args.next.test in
    let last = each_last (IsReady job) path test c.requires.out.ready in
    let inside : test < length c.args.table.now.job.tests = subst (λ (j : JobValue). test < length j.tests) (sym c.requires.job) last.in_job in
    let new : is_placed c.args.table.now.placed test ≡ false = unplaced_in c.args.table.now.placed path test c.requires.placed.in_order (not_in path test last.new) in
    let most : c.noted_start-start.result + cycles_of c.args.table.now.job test ≤ 10 ^ 18 = c.list_schedules_are_short.ensures.fits c.args.table.now test c.noted_start-start.result c.requires.sound c.requires.placed.list inside new c.noted_start-start.ensures.earliest in
    let cycles : c.cycles_at.result ≡ cycles_of c.args.table.now.job test = c.cycles_at.ensures ∙ ap (λ (j : JobValue). cycles_of j test) (sym c.requires.job) in
    let small : c.noted_start-start.result + c.cycles_at.result ≤ 10 ^ 18 = omega (arith, most, cycles) in
    search rules

pub go_on-explore_orders-requires : goal.go_on-explore_orders-requires
go_on-explore_orders-requires g t c κs within_measure =
    let job = job_value c.args.job.now in
    let path : List ℕ = c.args.prefix.now.tests.items in
    let test : ℕ = c.args.next.test in
    let more : List ℕ = c.append.new.self.tests.items in
    let more_is : more ≡ path ++ test ∷ [] = c.append.ensures.tests_are in
    let grown : c.table.result.now ≡ record c.args.table.now { placed = c.args.table.now.placed ++ at_start test c.noted_start-start.result ∷ [] } = c.table.ensures.value ∙ c.place-frame.ensures.table ∙ ap (λ (t : TableValue). record t { placed = t.placed ++ at_start test c.noted_start-start.result ∷ [] }) c.noted_start-start.ensures.same in
    let job_is : c.table.result.now.job ≡ job = ap (λ (v : TableValue). v.job) grown ∙ c.requires.job in
    let sound : IsSoundTable c.table.result.now = c.table.ensures.sound in
    let cycles : c.cycles_at.result ≡ cycles_of c.args.table.now.job test = c.cycles_at.ensures ∙ ap (λ (j : JobValue). cycles_of j test) (sym c.requires.job) in
    let end' : c.max-next_end.result ≡ max c.args.next.end (c.noted_start-start.result + cycles_of c.args.table.now.job test) = omega (arith, c.max-next_end.ensures, cycles) in
    let placed : HasPlaced c.table.result.now more c.max-next_end.result = one_placed c.args.table.now c.table.result.now path more c.args.next.end c.max-next_end.result test c.noted_start-start.result c.requires.placed c.noted_start-start.ensures.earliest grown more_is end' in
    let inside : test < length job.tests = (each_last (IsReady job) path test c.requires.out.ready).in_job in
    let seen : IfSome c.seen_beside-seen.result (IsSeen c.table.result.now) = seen_more c.args.table.now c.table.result.now job (at_start test c.noted_start-start.result) c.args.next.cycles c.seen_beside-seen.result c.requires.job grown inside c.requires.in_time c.seen_beside-seen.ensures.seen c.seen_beside-seen.ensures.precedes_none in
    let at : IsAt job more c.append.new.self = at_own job (path ++ test ∷ []) c.append.new.self c.append.ensures in
    let long : length more ≡ length path + 1 = omega (arith, ap length more_is, length-append path (test ∷ [])) in
    let opened : IsOpen job more = subst (IsOpen job) (sym more_is) c.requires.opened in
    let none_before : NoneBefore job more c.args.progress.now.best.items = subst (λ (l : List ℕ). NoneBefore job l c.args.progress.now.best.items) (sym more_is) c.requires.none_before in
    let measure : (length job.tests - length more) * 2 + 1 < (length job.tests - length path) * 2 = omega (arith, long, at.left) in
    (search rules, (within_measure.0, (within_measure.1, (job_is, (sound, (c.requires.tries, (c.requires.estimates, (placed, (at, (seen, (c.requires.best_room, (c.requires.going, (c.requires.within, (opened, (c.requires.best, none_before)))))))))))))))

pub go_on-go_back-requires-clause-at : goal.go_on-go_back-requires-clause-at
go_on-go_back-requires-clause-at g t c = at_own (job_value c.args.job.now) c.append.new.self.tests.items c.explore_orders.new.prefix (c.explore_orders.ensures.at c.if-not-progress.true)

pub go_on-go_back-requires-clause-some : goal.go_on-go_back-requires-clause-some
go_on-go_back-requires-clause-some g t c =
    let path : List ℕ = c.args.prefix.now.tests.items in
    omega (arith, ap length (c.explore_orders.ensures.at c.if-not-progress.true).tests_are, ap length c.append.ensures.tests_are, length-append path (c.args.next.test ∷ []))

pub go_on-returns-then-not-progress-clause-table : goal.go_on-returns-then-not-progress-clause-table
go_on-returns-then-not-progress-clause-table g t c =
    let test : ℕ = c.args.next.test in
    let grown : c.table.result.now ≡ record c.args.table.now { placed = c.args.table.now.placed ++ at_start test c.noted_start-start.result ∷ [] } = c.table.ensures.value ∙ c.place-frame.ensures.table ∙ ap (λ (t : TableValue). record t { placed = t.placed ++ at_start test c.noted_start-start.result ∷ [] }) c.noted_start-start.ensures.same in
    let back : c.undo.new.self.0 ≡ c.args.table.now = taken_back c.args.table.now c.explore_orders.new.table c.undo.new.self.0 c.place-frame.result.before test c.noted_start-start.result c.undo.ensures.table (c.explore_orders.ensures.table ∙ grown) (c.place-frame.ensures.before ∙ ap (λ (t : TableValue). length t.placed) c.noted_start-start.ensures.same) in
    search rules

pub go_on-returns-then-not-progress-clause-out : goal.go_on-returns-then-not-progress-clause-out
go_on-returns-then-not-progress-clause-out g t c = λ going.
    c.go_back.ensures c.args.prefix.now.tests.items c.args.next.test ((c.explore_orders.ensures.at c.if-not-progress.true).tests_are ∙ c.append.ensures.tests_are)

pub go_on-returns-then-not-progress-clause-room : goal.go_on-returns-then-not-progress-clause-room
go_on-returns-then-not-progress-clause-room g t c =
    (c.go_back.ensures c.args.prefix.now.tests.items c.args.next.test ((c.explore_orders.ensures.at c.if-not-progress.true).tests_are ∙ c.append.ensures.tests_are)).has_room

pub go_on-returns-then-not-progress-clause-explored : goal.go_on-returns-then-not-progress-clause-explored
go_on-returns-then-not-progress-clause-explored g t c =
    let job = job_value c.args.job.now in
    let path : List ℕ = c.args.prefix.now.tests.items in
    followed job c.args.tries.now.budget (length job.tests) path c.append.new.self.tests.items c.args.next.test (stand_of c.args.progress.now) (stand_of c.explore_orders.new.progress) c.append.ensures.tests_are c.explore_orders.ensures.explored

pub go_on-returns-else-not-progress-clause-table : goal.go_on-returns-else-not-progress-clause-table
go_on-returns-else-not-progress-clause-table g t c =
    let test : ℕ = c.args.next.test in
    let grown : c.table.result.now ≡ record c.args.table.now { placed = c.args.table.now.placed ++ at_start test c.noted_start-start.result ∷ [] } = c.table.ensures.value ∙ c.place-frame.ensures.table ∙ ap (λ (t : TableValue). record t { placed = t.placed ++ at_start test c.noted_start-start.result ∷ [] }) c.noted_start-start.ensures.same in
    let back : c.undo.new.self.0 ≡ c.args.table.now = taken_back c.args.table.now c.explore_orders.new.table c.undo.new.self.0 c.place-frame.result.before test c.noted_start-start.result c.undo.ensures.table (c.explore_orders.ensures.table ∙ grown) (c.place-frame.ensures.before ∙ ap (λ (t : TableValue). length t.placed) c.noted_start-start.ensures.same) in
    search rules

pub go_on-returns-else-not-progress-clause-explored : goal.go_on-returns-else-not-progress-clause-explored
go_on-returns-else-not-progress-clause-explored g t c =
    let job = job_value c.args.job.now in
    let path : List ℕ = c.args.prefix.now.tests.items in
    followed job c.args.tries.now.budget (length job.tests) path c.append.new.self.tests.items c.args.next.test (stand_of c.args.progress.now) (stand_of c.explore_orders.new.progress) c.append.ensures.tests_are c.explore_orders.ensures.explored

pub explore_orders-overflow_add-place : goal.explore_orders-overflow_add-place
explore_orders-overflow_add-place g t c =
    let less : c.loop-place.place < c.len-count.result = c.loop-place-test.true in
    let fits : c.len-count.result < 2 ^ 64 = c.len-count.type_inv in
    omega (arith, less, fits)

pub go_on-undo-requires : goal.go_on-undo-requires
go_on-undo-requires g t c =
    let test : ℕ = c.args.next.test in
    let grown : c.table.result.now ≡ record c.args.table.now { placed = c.args.table.now.placed ++ at_start test c.noted_start-start.result ∷ [] } = c.table.ensures.value ∙ c.place-frame.ensures.table ∙ ap (λ (t : TableValue). record t { placed = t.placed ++ at_start test c.noted_start-start.result ∷ [] }) c.noted_start-start.ensures.same in
    let before : c.place-frame.result.before ≡ length c.args.table.now.placed = c.place-frame.ensures.before ∙ ap (λ (t : TableValue). length t.placed) c.noted_start-start.ensures.same in
    let after : length c.explore_orders.new.table.placed ≡ length (c.args.table.now.placed ++ at_start test c.noted_start-start.result ∷ []) = ap (λ (t : TableValue). length t.placed) (c.explore_orders.ensures.table ∙ grown) in
    omega (arith, before, after, length-append c.args.table.now.placed (at_start test c.noted_start-start.result ∷ []))

pub go_on-returns-else-not-progress-clause-out : goal.go_on-returns-else-not-progress-clause-out
go_on-returns-else-not-progress-clause-out g t c = λ going. absurd (false≢true (sym going ∙ c.if-not-progress.false))

pub go_on-go_back-requires-clause-in_range : goal.go_on-go_back-requires-clause-in_range
go_on-go_back-requires-clause-in_range g t c = (subst IsSoundJob c.requires.job c.requires.sound.job).in_range

pub explore_orders-returns-clause-best_room : goal.explore_orders-returns-clause-best_room
explore_orders-returns-clause-best_room g t c = c.loop-place.invariant.best_room ∙ ap (λ (p : Progress). vec_capacity p.best) (c.enter_prefix.ensures.entered c.if-not-enter_prefix.false).1

pub go_on-seen_beside-seen-requires-clause-in_job : goal.go_on-seen_beside-seen-requires-clause-in_job
go_on-seen_beside-seen-requires-clause-in_job g t c = (each_last (IsReady (job_value c.args.job.now)) c.args.prefix.now.tests.items c.args.next.test c.requires.out.ready).in_job
