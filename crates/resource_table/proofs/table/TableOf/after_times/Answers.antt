use Rattle.std.proofs.Common.{◌<◌, ◌≤◌, ◌∙◌, ap, length, sym, subst, arith}
use Rattle.resource_table.specs.Jobs.{TestValue, job_value, test_value, test_at, no_test}
use Rattle.resource_table.specs.{Schedules.TableValue, Schedules.MeetsNone, PlacedTimes.busy_places}
use Rattle.busy_times.specs.BusyTimes.{IsFree}
use Rattle.resource_table.proofs.KeptStarts.{wanted_is, short_enough}
use Rattle.resource_table.proofs.PlacedTimes.{times_ordered, meets_from_free, free_from_meets}
use Rattle.resource_table.proofs.table.TableOf.after_times.Goals as goal

pub after_busy-requires-clause-last : goal.after_busy-requires-clause-last
after_busy-requires-clause-last g c =
    let inside = rw (← c.self.view_is) at c.requires.in_job in
    let wanted = wanted_is c.self.inside.own.tests.items c.args.test c.index-wanted.result.now inside c.index-wanted.ensures in
    let last = rw (← c.self.view_is) at c.requires.last in
    let small = short_enough c.self.invariant.0 c.args.test inside (test_value c.index-wanted.result.now) wanted c.args.last last in
    omega (arith, small)

pub after_busy-requires-clause-times : goal.after_busy-requires-clause-times
after_busy-requires-clause-times g c =
    let last = rw (← c.self.view_is) at c.requires.last in
    times_ordered (job_value c.self.inside.own) c.self.inside.trail.items c.self.invariant.0.sound c.self.inside.times c.args.last c.self.invariant.3 last

pub returns-clause-apart : goal.returns-clause-apart
returns-clause-apart g c =
    let inside = subst (λ (t : TableValue). c.args.test < length t.job.tests) (sym c.self.view_is) c.requires.in_job in
    let wanted = wanted_is c.self.inside.own.tests.items c.args.test c.index-wanted.result.now inside c.index-wanted.ensures in
    let free = subst (λ places. IsFree c.self.inside.times places c.index-wanted.result.now.length c.after_busy.result) (c.busy_places-places.ensures ∙ ap busy_places wanted) c.after_busy.ensures.free in
    subst (λ (t : TableValue). MeetsNone t.job t.placed c.args.test c.after_busy.result) c.self.view_is
    (meets_from_free (job_value c.self.inside.own) c.self.inside.trail.items c.self.invariant.0.sound c.self.inside.times c.self.invariant.3 c.args.test c.after_busy.result
    (subst (λ (t : TestValue). IsFree c.self.inside.times (busy_places (test_at (job_value c.self.inside.own) c.args.test)) t.cycles c.after_busy.result) wanted free))

pub returns-clause-least : goal.returns-clause-least
returns-clause-least g c =
    let inside = subst (λ (t : TableValue). c.args.test < length t.job.tests) (sym c.self.view_is) c.requires.in_job in
    let wanted = wanted_is c.self.inside.own.tests.items c.args.test c.index-wanted.result.now inside c.index-wanted.ensures in
    let lasts = (c.self.invariant.0.sound.job.tests c.args.test no_test inside).lasts in
    λ other later. subst (λ (t : TableValue). MeetsNone t.job t.placed c.args.test other → c.after_busy.result ≤ other) c.self.view_is
    (λ meets. c.after_busy.ensures.least other later (subst (λ places. IsFree c.self.inside.times places c.index-wanted.result.now.length other) (sym c.busy_places-places.ensures)
    (subst (λ (t : TestValue). IsFree c.self.inside.times (busy_places t) t.cycles other) (sym wanted)
    (free_from_meets (job_value c.self.inside.own) c.self.inside.trail.items c.self.invariant.0.sound c.self.inside.times c.self.invariant.3 c.args.test other lasts meets))))
