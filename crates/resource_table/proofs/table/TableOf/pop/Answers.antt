use Rattle.std.proofs.Common.{◌≡◌, ◌∙◌, ◌+◌, ◌-◌, ◌++◌, ◌∷◌, length, take, [], ap, length-append, sym, subst, arith, refl, None}
use Rattle.std.{specs.Prelude.IfSome, specs.List.flat_map, specs.Vec.with_item, proofs.lemmas.List.length-map, proofs.lemmas.List.append-nil}
use Rattle.resource_table.specs.declared.Placement.{Placement}
use Rattle.busy_times.specs.declared.timelines.Span.{Span}
use Rattle.resource_table.specs.Resources.{draws_of, marks_of}
use Rattle.busy_times.specs.Profiles.{ArePoints}
use Rattle.resource_table.specs.Histories.{at_change}
use Rattle.smallvec.specs.SmallVec.{SmallVec}
use Rattle.resource_table.specs.Jobs.{TestValue, job_value, test_value, test_at, cycles_of}
use Rattle.resource_table.specs.PlacedTimes.{busy_places, AreTimes}
use Rattle.busy_times.specs.BusyTimes.{MayRemove, IsRemoved}
use Rattle.resource_table.proofs.PlacedTimes.{may_remove, times_less}
use Rattle.resource_table.proofs.{Bounds.bounded_pop, KeptStarts.wanted_is}
use Rattle.resource_table.proofs.KeptMarks.{before_pop, after_pop}
use Rattle.resource_table.proofs.KeptTables.{kept_pop, last_may, last_inside, last_steps, last_draws, length-draws_from}
use Rattle.resource_table.proofs.table.TableOf.pop.Goals as goal

pub index-gone-requires : goal.index-gone-requires
index-gone-requires g c =
    let inside = last_inside c.self.invariant.0 c.pop.new.self.items c.in-Some.last c.in-Some.ensures.items in
    omega (arith, inside, length-map c.self.inside.own.tests.items test_value, c.self.inside.own.tests.ok.0)

pub overflow_sub-count : goal.overflow_sub-count
overflow_sub-count g c =
    let inside = last_inside c.self.invariant.0 c.pop.new.self.items c.in-Some.last c.in-Some.ensures.items in
    let wanted = wanted_is c.self.inside.own.tests.items c.in-Some.last.test c.index-gone.result.now inside c.index-gone.ensures in
    let few = last_steps c.self.invariant.0 c.pop.new.self.items c.in-Some.last c.in-Some.ensures.items (test_value c.index-gone.result.now) wanted in
    omega (arith, few, c.len.ensures, c.len-steps.ensures, c.index-gone.result.now.power.ok.0, c.self.inside.draws.ok.0)

pub index_mut-requires : goal.index_mut-requires
index_mut-requires g c =
    let inside = last_inside c.self.invariant.0 c.pop.new.self.items c.in-Some.last c.in-Some.ensures.items in
    omega (arith, inside, c.self.invariant.0.ends_long, c.self.inside.ends.ok.0)

pub invariant_of-self : goal.invariant_of-self
invariant_of-self g c =
    let inside = last_inside c.self.invariant.0 c.pop.new.self.items c.in-Some.last c.in-Some.ensures.items in
    let wanted = wanted_is c.self.inside.own.tests.items c.in-Some.last.test c.index-gone.result.now inside c.index-gone.ensures in
    let job = job_value c.self.inside.own in
    let placed = c.pop.new.self.items in
    let draws = c.deref.ensures.value ∙ last_draws c.self.invariant.0 placed c.in-Some.last c.in-Some.ensures.items in
    let few = length-draws_from c.in-Some.last.start (cycles_of job c.in-Some.last.test) (test_at job c.in-Some.last.test).steps in
    let whole = ap length (sym c.deref.ensures.value ∙ draws) ∙ length-append (flat_map (draws_of job) placed) (draws_of job c.in-Some.last) in
    let steps = c.len-steps.ensures ∙ c.index-gone.result.now.power.ok.0 ∙ ap (λ (t : TestValue). length t.steps) wanted in
    let count : c.len.result - c.len-steps.result ≡ length (flat_map (draws_of job) placed) = omega (arith, few, whole, steps, c.len.ensures, c.self.inside.draws.ok.0) in
    let old : IfSome job.power (λ _. ArePoints c.deref.result.now (flat_map (marks_of job) (placed ++ c.in-Some.last ∷ [])) c.self.inside.points.items) =
    subst (λ v. IfSome job.power (λ _. ArePoints v (flat_map (marks_of job) (placed ++ c.in-Some.last ∷ [])) c.self.inside.points.items)) (sym c.deref.ensures.value)
    (subst (λ v. IfSome job.power (λ _. ArePoints c.self.inside.draws.items (flat_map (marks_of job) v) c.self.inside.points.items)) c.in-Some.ensures.items c.self.invariant.2.are) in
    let all = c.len.ensures ∙ c.self.inside.draws.ok.0 in
    let front : c.len.result - c.len-steps.result ≡ length c.self.inside.draws.items - length (test_at (job_value c.self.inside.own) c.in-Some.last.test).steps = omega arith in (
      kept_pop (job_value c.self.inside.own) c.self.inside.trail c.pop.new.self c.self.inside.ends (with_item c.self.inside.ends c.in-Some.last.test None) c.self.inside.lasts c.truncate-in-Some.new.self c.self.inside.draws c.truncate.new.self c.in-Some.last c.self.invariant.0
          c.in-Some.ensures.items c.in-Some.ensures.capacity refl
          (c.truncate-in-Some.ensures.items ∙ ap (λ n. take n c.self.inside.lasts.items) c.len-in-Some.ensures.value) c.truncate-in-Some.ensures.capacity
          (c.truncate.ensures.items ∙ ap (λ n. take n c.self.inside.draws.items) front) c.truncate.ensures.capacity,
      c.self.invariant.1,
      record {
        are = subst (λ v. IfSome job.power (λ _. ArePoints v (flat_map (marks_of job) placed) c.take_drawn.new.points.items)) (sym c.truncate.ensures.items)
            (subst (λ v. IfSome job.power (λ _. ArePoints (take (c.len.result - c.len-steps.result) v) (flat_map (marks_of job) placed) c.take_drawn.new.points.items)) c.deref.ensures.value
            (after_pop job placed c.in-Some.last c.deref.result.now (c.len.result - c.len-steps.result) draws count c.self.inside.points.items c.take_drawn.new.points.items old c.take_drawn.ensures.points));
        room = (let room = c.self.invariant.2.room in omega (arith, room, c.take_drawn.ensures.capacity));
      },
      times_less job placed c.in-Some.last inside c.self.inside.times c.remove_time.new.times (subst (λ v. AreTimes job v c.self.inside.times) c.in-Some.ensures.items c.self.invariant.3)
          (subst (λ (t : TestValue). IsRemoved (busy_places t) (let s : Span = record { from = c.in-Some.last.start; to = c.in-Some.last.start + t.cycles } in s) c.self.inside.times c.remove_time.new.times) wanted
          (subst (λ places. IsRemoved places (let s : Span = record { from = c.in-Some.last.start; to = c.in-Some.last.start + c.index-gone.result.now.length } in s) c.self.inside.times c.remove_time.new.times) c.busy_places-places.ensures c.remove_time.ensures)),
      bounded_pop job placed c.self.inside.trail.items c.in-Some.last c.self.inside.bounds c.undo_to_mark.new.history c.in-Some.ensures.items c.self.invariant.4 c.undo_to_mark.ensures.history c.undo_to_mark.ensures.long c.undo_to_mark.ensures.past c.undo_to_mark.ensures.room,
    )

pub undo_to_mark-requires-clause-history : goal.undo_to_mark-requires-clause-history
undo_to_mark-requires-clause-history g c = c.self.invariant.4.history

pub undo_to_mark-requires-clause-marked : goal.undo_to_mark-requires-clause-marked
undo_to_mark-requires-clause-marked g c =
    omega (arith, c.self.invariant.4.levels, length-map c.self.inside.bounds.marks.items (at_change c.self.inside.bounds), ap length c.in-Some.ensures.items, length-append c.pop.new.self.items (c.in-Some.last ∷ []))

pub take_drawn-requires-clause-points : goal.take_drawn-requires-clause-points
take_drawn-requires-clause-points g c =
    let inside = last_inside c.self.invariant.0 c.pop.new.self.items c.in-Some.last c.in-Some.ensures.items in
    let wanted = wanted_is c.self.inside.own.tests.items c.in-Some.last.test c.index-gone.result.now inside c.index-gone.ensures in
    let job = job_value c.self.inside.own in
    let placed = c.pop.new.self.items in
    let draws = c.deref.ensures.value ∙ last_draws c.self.invariant.0 placed c.in-Some.last c.in-Some.ensures.items in
    let few = length-draws_from c.in-Some.last.start (cycles_of job c.in-Some.last.test) (test_at job c.in-Some.last.test).steps in
    let whole = ap length (sym c.deref.ensures.value ∙ draws) ∙ length-append (flat_map (draws_of job) placed) (draws_of job c.in-Some.last) in
    let steps = c.len-steps.ensures ∙ c.index-gone.result.now.power.ok.0 ∙ ap (λ (t : TestValue). length t.steps) wanted in
    let count : c.len.result - c.len-steps.result ≡ length (flat_map (draws_of job) placed) = omega (arith, few, whole, steps, c.len.ensures, c.self.inside.draws.ok.0) in
    let old : IfSome job.power (λ _. ArePoints c.deref.result.now (flat_map (marks_of job) (placed ++ c.in-Some.last ∷ [])) c.self.inside.points.items) =
    rw (← c.deref.ensures.value) at (rw c.in-Some.ensures.items at c.self.invariant.2.are) in
    before_pop job placed c.in-Some.last c.deref.result.now (c.len.result - c.len-steps.result) draws count c.self.inside.points.items old

pub overflow_add-to : goal.overflow_add-to
overflow_add-to g c =
    let may = last_may c.self.invariant.0 c.pop.new.self.items c.in-Some.last c.in-Some.ensures.items in
    let wanted = wanted_is c.self.inside.own.tests.items c.in-Some.last.test c.index-gone.result.now may.in_job c.index-gone.ensures in
    omega (arith, may.ends, ap (λ (t : TestValue). t.cycles) wanted)

pub remove_time-requires : goal.remove_time-requires
remove_time-requires g c =
    let inside = last_inside c.self.invariant.0 c.pop.new.self.items c.in-Some.last c.in-Some.ensures.items in
    let wanted = wanted_is c.self.inside.own.tests.items c.in-Some.last.test c.index-gone.result.now inside c.index-gone.ensures in
    subst (λ places. MayRemove c.self.inside.times places (let s : Span = record { from = c.in-Some.last.start; to = c.in-Some.last.start + c.index-gone.result.now.length } in s)) (sym c.busy_places-places.ensures)
    (subst (λ (t : TestValue). MayRemove c.self.inside.times (busy_places t) (let s : Span = record { from = c.in-Some.last.start; to = c.in-Some.last.start + t.cycles } in s)) (sym wanted)
    (may_remove (job_value c.self.inside.own) c.pop.new.self.items c.in-Some.last inside c.self.inside.times (subst (λ v. AreTimes (job_value c.self.inside.own) v c.self.inside.times) c.in-Some.ensures.items c.self.invariant.3)))

-- where nothing was placed the trail is as it was
same_trail : (old new : SmallVec Placement) → old.items ≡ new.items ++ [] → new.capacity ≡ old.capacity → old ≡ new
same_trail old new items capacity =
    ap (λ v. (let trail : SmallVec Placement = record { items = v; capacity = old.capacity } in trail)) (items ∙ append-nil new.items)
    ∙ ap (λ n. (let trail : SmallVec Placement = record { items = new.items; capacity = n } in trail)) (sym capacity)

pub invariant_of-self-in_default : goal.invariant_of-self-in_default
invariant_of-self-in_default g c =
    let own = c.self.inside in
    rw (same_trail own.trail c.pop.new.self c.in_default.ensures.items c.in_default.ensures.capacity) at c.self.invariant
