use Rattle.std.proofs.Common.{◌≡◌, ◌<◌, ◌≤◌, length, refl, sym, subst, arith}
use Rattle.std.specs.{Prelude.IfSome, List.flat_map}
use Rattle.busy_times.specs.{Profiles.ArePoints, Draws.load_of}
use Rattle.resource_table.specs.Jobs.{job_value, test_value}
use Rattle.resource_table.specs.Resources.{marks_of}
use Rattle.resource_table.specs.Schedules.{TableValue, last_end, StaysWithin}
use Rattle.resource_table.proofs.KeptStarts.{wanted_is, short_enough, profile_now, steps_within_limit, steps_here, within_here}
use Rattle.resource_table.proofs.table.TableOf.after_draws.Goals as goal

pub after_power-requires-clause-last : goal.after_power-requires-clause-last
after_power-requires-clause-last g c =
    let inside = rw (← c.self.view_is) at c.requires.in_job in
    let wanted = wanted_is c.self.inside.own.tests.items c.args.test c.index-wanted.result.now inside c.index-wanted.ensures in
    let last = rw (← c.self.view_is) at c.requires.last in
    let small = short_enough c.self.invariant.0 c.args.test inside (test_value c.index-wanted.result.now) wanted c.args.last last in
    omega (arith, small)

pub after_power-requires-clause-profile : goal.after_power-requires-clause-profile
after_power-requires-clause-profile g c =
    let inside = rw (← c.self.view_is) at c.requires.in_job in
    let wanted = wanted_is c.self.inside.own.tests.items c.args.test c.index-wanted.result.now inside c.index-wanted.ensures in
    let last = rw (← c.self.view_is) at c.requires.last in
    let profile = profile_now c.self.invariant.0 c.self.inside.points.items c.deref.result.now c.args.last (rw c.in-Some.is at c.self.invariant.2.are) c.deref.ensures.value last in
    (load_of c.self.inside.draws.items, profile)

pub after_power-requires-clause-within : goal.after_power-requires-clause-within
after_power-requires-clause-within g c =
    let inside = rw (← c.self.view_is) at c.requires.in_job in
    let wanted = wanted_is c.self.inside.own.tests.items c.args.test c.index-wanted.result.now inside c.index-wanted.ensures in
    steps_within_limit c.self.invariant.0 c.args.test inside (test_value c.index-wanted.result.now) wanted c.deref-2.result.now c.in-Some.limit c.deref-2.ensures.value c.in-Some.is

pub returns-clause-within : goal.returns-clause-within
returns-clause-within g c =
    let inside = subst (λ (t : TableValue). c.args.test < length t.job.tests) (sym c.self.view_is) c.requires.in_job in
    let wanted = wanted_is c.self.inside.own.tests.items c.args.test c.index-wanted.result.now inside c.index-wanted.ensures in
    let last = subst (λ (t : TableValue). c.args.last ≡ last_end t.job t.placed) (sym c.self.view_is) c.requires.last in
    let profile = profile_now c.self.invariant.0 c.self.inside.points.items c.deref.result.now c.args.last (subst (λ o. IfSome o (λ _. ArePoints c.self.inside.draws.items (flat_map (marks_of (job_value c.self.inside.own)) c.self.inside.trail.items) c.self.inside.points.items)) c.in-Some.is c.self.invariant.2.are) c.deref.ensures.value last in
    subst (λ (t : TableValue). StaysWithin t.job t.placed c.args.test c.after_power.result) c.self.view_is
    (within_here c.self.invariant.0 c.args.test inside (test_value c.index-wanted.result.now) wanted c.after_power.result c.in-Some.limit c.self.inside.draws.items c.deref-2.result.now refl c.deref-2.ensures.value c.in-Some.is (c.after_power.ensures.fits (load_of c.self.inside.draws.items) profile))

pub returns-clause-least : goal.returns-clause-least
returns-clause-least g c =
    let inside = rw (← c.self.view_is) at c.requires.in_job in
    let wanted = wanted_is c.self.inside.own.tests.items c.args.test c.index-wanted.result.now inside c.index-wanted.ensures in
    let last = rw (← c.self.view_is) at c.requires.last in
    let profile = profile_now c.self.invariant.0 c.self.inside.points.items c.deref.result.now c.args.last (rw c.in-Some.is at c.self.invariant.2.are) c.deref.ensures.value last in
    λ other later. subst (λ (t : TableValue). StaysWithin t.job t.placed c.args.test other → c.after_power.result ≤ other) c.self.view_is
    (λ within. c.after_power.ensures.least (load_of c.self.inside.draws.items) profile other later (steps_here c.self.invariant.0 c.args.test inside (test_value c.index-wanted.result.now) wanted other c.in-Some.limit c.self.inside.draws.items c.deref-2.result.now refl c.deref-2.ensures.value c.in-Some.is within))
