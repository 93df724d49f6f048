use Rattle.std.proofs.Common.{◌≡◌, ◌+◌, ◌^◌, ◌≤◌, ◌∙◌, ◌++◌, ◌∷◌, [], ℕ, length, set, max, refl, sym, subst, ap, arith, Some, lit<, length-append}
use Rattle.std.{specs.Prelude.IfSome, specs.Vec.with_item, specs.List.flat_map, specs.List.All, proofs.lemmas.List.length-map}
use Rattle.busy_times.specs.declared.timelines.Span.{Span}
use Rattle.busy_times.specs.Profiles.{ArePoints}
use Rattle.resource_table.specs.PlacedTimes.{busy_places, AreTimes}
use Rattle.busy_times.specs.BusyTimes.{MayAdd, IsAdded}
use Rattle.resource_table.specs.Jobs.{TestValue, job_value, test_value, test_at, cycles_of, no_test}
use Rattle.resource_table.specs.Schedules.{TableValue, at_start, last_end, MayPlace}
use Rattle.busy_times.specs.Draws.{draws_from}
use Rattle.resource_table.specs.Resources.{draws_of, marks_of}
use Rattle.resource_table.proofs.PlacedTimes.{may_add, times_more}
use Rattle.resource_table.proofs.KeptStarts.{wanted_is}
use Rattle.resource_table.proofs.Bounds.{bounded_push, marks_have_room}
use Rattle.resource_table.proofs.KeptTables.{kept_push, trail_has_room, draws_have_room, length-draws_from}
use Rattle.resource_table.proofs.KeptMarks.{last_room, last_within, before_last, after_push}
use Rattle.soc_model.specs.declared.TheConstants.{NUMBER_WORD_MOST}
use Rattle.resource_table.proofs.table.TableOf.push.Goals as goal

pub index-wanted-requires : goal.index-wanted-requires
index-wanted-requires g c =
    let may = rw (← c.self.view_is) at c.requires in
    let inside = may.in_job in
    omega (arith, inside, length-map c.self.inside.own.tests.items test_value, c.self.inside.own.tests.ok.0)

pub index_mut-requires : goal.index_mut-requires
index_mut-requires g c =
    let may = rw (← c.self.view_is) at c.requires in
    let inside = may.in_job in
    omega (arith, inside, c.self.invariant.0.ends_long, c.self.inside.ends.ok.0)

pub overflow_add-to : goal.overflow_add-to
overflow_add-to g c =
    let may = subst (λ (t : TableValue). MayPlace t.job t.placed c.args.test c.args.start) (sym c.self.view_is) c.requires in
    let wanted = wanted_is c.self.inside.own.tests.items c.args.test c.index-wanted.result.now may.in_job c.index-wanted.ensures in
    omega (arith, subst (λ (t : TestValue). c.args.start + t.cycles ≤ 10 ^ 18) (sym wanted) may.ends)

pub push_draws-requires-clause-room : goal.push_draws-requires-clause-room
push_draws-requires-clause-room g c =
    let may = rw (← c.self.view_is) at c.requires in
    let wanted = wanted_is c.self.inside.own.tests.items c.args.test c.index-wanted.result.now may.in_job c.index-wanted.ensures in
    let room = draws_have_room (job_value c.self.inside.own) c.self.inside.trail.items c.args.test c.args.start c.self.invariant.0.sound may in
    let steps = ap length c.deref.ensures.value ∙ ap (λ (t : TestValue). length t.steps) wanted in
    omega (arith, room, ap length c.self.invariant.0.draws_are, c.self.invariant.0.draws_room, steps, c.self.inside.draws.ok.0)

pub push_reserved-requires : goal.push_reserved-requires
push_reserved-requires g c =
    let may = rw (← c.self.view_is) at c.requires in
    let room = trail_has_room (job_value c.self.inside.own) c.self.inside.trail.items c.args.test c.args.start c.self.invariant.0.sound may in
    omega (arith, room, c.self.invariant.0.lasts_room, c.self.invariant.0.lasts_long, c.self.inside.lasts.ok.0)

pub add_time-requires : goal.add_time-requires
add_time-requires g c =
    let may = rw (← c.self.view_is) at c.requires in
    let wanted = wanted_is c.self.inside.own.tests.items c.args.test c.index-wanted.result.now may.in_job c.index-wanted.ensures in
    subst (MayAdd c.self.inside.times) (sym (c.busy_places-places.ensures ∙ ap busy_places wanted)) (may_add (job_value c.self.inside.own) c.self.inside.trail.items c.self.invariant.0.sound c.args.test c.args.start may c.self.inside.times c.self.invariant.3)

pub push_reserved-requires-2 : goal.push_reserved-requires-2
push_reserved-requires-2 g c =
    let may = rw (← c.self.view_is) at c.requires in
    let all = c.self.invariant.0.trail_room in
    (lit< tt, omega (arith, trail_has_room (job_value c.self.inside.own) c.self.inside.trail.items c.args.test c.args.start c.self.invariant.0.sound may, all))

pub invariant_of-self : goal.invariant_of-self
invariant_of-self g c =
    let may = subst (λ (t : TableValue). MayPlace t.job t.placed c.args.test c.args.start) (sym c.self.view_is) c.requires in
    let wanted = wanted_is c.self.inside.own.tests.items c.args.test c.index-wanted.result.now may.in_job c.index-wanted.ensures in
    let job = job_value c.self.inside.own in
    let placed = c.self.inside.trail.items in
    let draws : c.deref-2.result.now ≡ flat_map (draws_of job) placed ++ draws_of job (at_start c.args.test c.args.start) =
    c.deref-2.ensures.value ∙ c.push_draws.ensures.items ∙ ap (λ v. c.self.inside.draws.items ++ draws_from c.args.start c.index-wanted.result.now.length v) c.deref.ensures.value
    ∙ ap (λ (t : TestValue). c.self.inside.draws.items ++ draws_from c.args.start t.cycles t.steps) wanted ∙ ap (λ v. v ++ draws_of job (at_start c.args.test c.args.start)) c.self.invariant.0.draws_are in
    let earlier = c.len-earlier.ensures ∙ c.self.inside.draws.ok.0 ∙ ap length c.self.invariant.0.draws_are in
    let old = subst (λ v. IfSome job.power (λ _. ArePoints v (flat_map (marks_of job) placed) c.self.inside.points.items)) c.self.invariant.0.draws_are c.self.invariant.2.are in
    let end = c.args.start + c.index-wanted.result.now.length in
    let last = subst (λ (t : TableValue). c.last-last.result ≡ last_end t.job t.placed) (sym c.self.view_is) c.last-last.ensures.last in
    let latest = c.max.ensures ∙ ap (λ n. max n end) last ∙ ap (λ (t : TestValue). max (last_end job placed) (c.args.start + t.cycles)) wanted in (
      kept_push (job_value c.self.inside.own) c.self.inside.trail c.push_reserved-2.new.self c.self.inside.ends (with_item c.self.inside.ends c.args.test (Some end)) c.self.inside.lasts c.push_reserved.new.self c.self.inside.draws c.push_draws.new.draws c.args.test c.args.start
          c.self.invariant.0 may c.push_reserved-2.ensures.items c.push_reserved-2.ensures.capacity
          (ap (λ (t : TestValue). set c.self.inside.ends.items c.args.test (Some (c.args.start + t.cycles))) wanted)
          (c.push_reserved.ensures.items ∙ ap (λ n. c.self.inside.lasts.items ++ n ∷ []) latest)
          c.push_reserved.ensures.capacity
          (c.push_draws.ensures.items ∙ ap (λ v. c.self.inside.draws.items ++ draws_from c.args.start c.index-wanted.result.now.length v) c.deref.ensures.value
          ∙ ap (λ (t : TestValue). c.self.inside.draws.items ++ draws_from c.args.start t.cycles t.steps) wanted)
          c.push_draws.ensures.capacity,
      c.self.invariant.1,
      record {
        are = subst (λ v. IfSome job.power (λ _. ArePoints c.push_draws.new.draws.items (flat_map (marks_of job) v) c.add_drawn.new.points.items)) (sym c.push_reserved-2.ensures.items)
            (subst (λ v. IfSome job.power (λ _. ArePoints v (flat_map (marks_of job) (placed ++ at_start c.args.test c.args.start ∷ [])) c.add_drawn.new.points.items)) c.deref-2.ensures.value
            (after_push job placed (at_start c.args.test c.args.start) c.deref-2.result.now c.len-earlier.result draws earlier c.self.inside.points.items c.add_drawn.new.points.items c.self.invariant.0.sound old c.add_drawn.ensures.points));
        room = (let room = c.self.invariant.2.room in omega (arith, room, c.add_drawn.ensures.capacity));
      },
      subst (λ v. AreTimes job v c.add_time.new.times) (sym c.push_reserved-2.ensures.items)
          (times_more job placed c.self.invariant.0.sound c.args.test c.args.start may c.self.inside.times c.add_time.new.times c.self.invariant.3
          (subst (λ (t : TestValue). IsAdded (busy_places t) (let s : Span = record { from = c.args.start; to = c.args.start + t.cycles } in s) c.self.inside.times c.add_time.new.times) wanted
          (subst (λ places. IsAdded places (let s : Span = record { from = c.args.start; to = c.args.start + c.index-wanted.result.now.length } in s) c.self.inside.times c.add_time.new.times) c.busy_places-places.ensures c.add_time.ensures))),
      bounded_push job placed c.push_reserved-2.new.self.items (at_start c.args.test c.args.start) c.self.inside.bounds c.mark_changes.new.history c.push_reserved-2.ensures.items c.self.invariant.4 c.mark_changes.ensures.history c.mark_changes.ensures.values c.mark_changes.ensures.past c.mark_changes.ensures.room,
    )

pub mark_changes-requires-clause-history : goal.mark_changes-requires-clause-history
mark_changes-requires-clause-history g c = c.self.invariant.4.history

pub mark_changes-requires-clause-room : goal.mark_changes-requires-clause-room
mark_changes-requires-clause-room g c =
    let may = rw (← c.self.view_is) at c.requires in
    let room = trail_has_room (job_value c.self.inside.own) c.self.inside.trail.items c.args.test c.args.start c.self.invariant.0.sound may in
    marks_have_room (job_value c.self.inside.own) c.self.inside.trail.items c.self.inside.bounds c.self.invariant.4 room

pub returns-clause-sound : goal.returns-clause-sound
returns-clause-sound g c = (invariant_of-self g c).0.sound

pub add_drawn-requires-clause-from : goal.add_drawn-requires-clause-from
add_drawn-requires-clause-from g c =
    let may = rw (← c.self.view_is) at c.requires in
    let wanted = wanted_is c.self.inside.own.tests.items c.args.test c.index-wanted.result.now may.in_job c.index-wanted.ensures in
    let job = job_value c.self.inside.own in
    let placed = c.self.inside.trail.items in
    let draws : c.deref-2.result.now ≡ flat_map (draws_of job) placed ++ draws_of job (at_start c.args.test c.args.start) =
    c.deref-2.ensures.value ∙ c.push_draws.ensures.items ∙ ap (λ v. c.self.inside.draws.items ++ draws_from c.args.start c.index-wanted.result.now.length v) c.deref.ensures.value
    ∙ ap (λ (t : TestValue). c.self.inside.draws.items ++ draws_from c.args.start t.cycles t.steps) wanted ∙ ap (λ v. v ++ draws_of job (at_start c.args.test c.args.start)) c.self.invariant.0.draws_are in
    let earlier = c.len-earlier.ensures ∙ c.self.inside.draws.ok.0 ∙ ap length c.self.invariant.0.draws_are in
    let old = rw c.self.invariant.0.draws_are at c.self.invariant.2.are in
    omega (arith, earlier, ap length draws, length-append (flat_map (draws_of job) placed) (draws_of job (at_start c.args.test c.args.start)))

pub add_drawn-requires-clause-room : goal.add_drawn-requires-clause-room
add_drawn-requires-clause-room g c =
    let may = rw (← c.self.view_is) at c.requires in
    let wanted = wanted_is c.self.inside.own.tests.items c.args.test c.index-wanted.result.now may.in_job c.index-wanted.ensures in
    let job = job_value c.self.inside.own in
    let placed = c.self.inside.trail.items in
    let draws : c.deref-2.result.now ≡ flat_map (draws_of job) placed ++ draws_of job (at_start c.args.test c.args.start) =
    c.deref-2.ensures.value ∙ c.push_draws.ensures.items ∙ ap (λ v. c.self.inside.draws.items ++ draws_from c.args.start c.index-wanted.result.now.length v) c.deref.ensures.value
    ∙ ap (λ (t : TestValue). c.self.inside.draws.items ++ draws_from c.args.start t.cycles t.steps) wanted ∙ ap (λ v. v ++ draws_of job (at_start c.args.test c.args.start)) c.self.invariant.0.draws_are in
    let earlier = c.len-earlier.ensures ∙ c.self.inside.draws.ok.0 ∙ ap length c.self.invariant.0.draws_are in
    let old = rw c.self.invariant.0.draws_are at c.self.invariant.2.are in
    last_room job placed (at_start c.args.test c.args.start) c.deref-2.result.now c.len-earlier.result draws earlier c.self.inside.points c.self.invariant.0.sound may c.self.invariant.2.room (length-draws_from c.args.start (cycles_of job c.args.test) (test_at job c.args.test).steps) old

pub add_drawn-requires-clause-within : goal.add_drawn-requires-clause-within
add_drawn-requires-clause-within g c =
    let may = rw (← c.self.view_is) at c.requires in
    let wanted = wanted_is c.self.inside.own.tests.items c.args.test c.index-wanted.result.now may.in_job c.index-wanted.ensures in
    let job = job_value c.self.inside.own in
    let placed = c.self.inside.trail.items in
    let draws : c.deref-2.result.now ≡ flat_map (draws_of job) placed ++ draws_of job (at_start c.args.test c.args.start) =
    c.deref-2.ensures.value ∙ c.push_draws.ensures.items ∙ ap (λ v. c.self.inside.draws.items ++ draws_from c.args.start c.index-wanted.result.now.length v) c.deref.ensures.value
    ∙ ap (λ (t : TestValue). c.self.inside.draws.items ++ draws_from c.args.start t.cycles t.steps) wanted ∙ ap (λ v. v ++ draws_of job (at_start c.args.test c.args.start)) c.self.invariant.0.draws_are in
    let earlier = c.len-earlier.ensures ∙ c.self.inside.draws.ok.0 ∙ ap length c.self.invariant.0.draws_are in
    last_within job placed (at_start c.args.test c.args.start) c.deref-2.result.now c.len-earlier.result draws earlier c.self.invariant.0.sound may refl

pub add_drawn-requires-clause-points : goal.add_drawn-requires-clause-points
add_drawn-requires-clause-points g c =
    let may = rw (← c.self.view_is) at c.requires in
    let wanted = wanted_is c.self.inside.own.tests.items c.args.test c.index-wanted.result.now may.in_job c.index-wanted.ensures in
    let job = job_value c.self.inside.own in
    let placed = c.self.inside.trail.items in
    let draws : c.deref-2.result.now ≡ flat_map (draws_of job) placed ++ draws_of job (at_start c.args.test c.args.start) =
    c.deref-2.ensures.value ∙ c.push_draws.ensures.items ∙ ap (λ v. c.self.inside.draws.items ++ draws_from c.args.start c.index-wanted.result.now.length v) c.deref.ensures.value
    ∙ ap (λ (t : TestValue). c.self.inside.draws.items ++ draws_from c.args.start t.cycles t.steps) wanted ∙ ap (λ v. v ++ draws_of job (at_start c.args.test c.args.start)) c.self.invariant.0.draws_are in
    let earlier = c.len-earlier.ensures ∙ c.self.inside.draws.ok.0 ∙ ap length c.self.invariant.0.draws_are in
    let old = rw c.self.invariant.0.draws_are at c.self.invariant.2.are in
    before_last job placed (at_start c.args.test c.args.start) c.deref-2.result.now c.len-earlier.result draws earlier c.self.inside.points.items c.self.invariant.0.sound old

pub push_draws-requires-clause-start : goal.push_draws-requires-clause-start
push_draws-requires-clause-start g c =
    let may = subst (λ (t : TableValue). MayPlace t.job t.placed c.args.test c.args.start) (sym c.self.view_is) c.requires in
    let wanted = wanted_is c.self.inside.own.tests.items c.args.test c.index-wanted.result.now may.in_job c.index-wanted.ensures in
    subst (λ (t : TestValue). c.args.start + t.cycles ≤ 10 ^ 18) (sym wanted) may.ends

pub push_draws-requires-clause-steps : goal.push_draws-requires-clause-steps
push_draws-requires-clause-steps g c =
    let may = rw (← c.self.view_is) at c.requires in
    let wanted = wanted_is c.self.inside.own.tests.items c.args.test c.index-wanted.result.now may.in_job c.index-wanted.ensures in
    let job = job_value c.self.inside.own in
    let sound = rw (← wanted) at (c.self.invariant.0.sound.job.tests c.args.test no_test may.in_job) in
    subst (All (λ (s : ℕ × ℕ). s.0 ≤ NUMBER_WORD_MOST)) (sym c.deref.ensures.value) (λ k d lt. (sound.small k d lt).0)
