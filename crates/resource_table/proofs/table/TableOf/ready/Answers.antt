use Rattle.std.proofs.Common.{◌≡◌, ◌≤◌, ◌<◌, length, sym, subst, arith}
use Rattle.resource_table.specs.Jobs.{job_value}
use Rattle.resource_table.specs.Schedules.{TableValue, last_end, ready_at, ComesAfter}
use Rattle.resource_table.proofs.Ready.{ready-le-last, ready-least, read_known, read_after, read_most, kept_before}
use Rattle.resource_table.proofs.table.TableOf.ready.Goals as goal

pub latest_end-requires : goal.latest_end-requires
latest_end-requires g c =
    let inside = rw (← c.self.view_is) at c.requires.in_job in
    let tests_is = kept_before (job_value c.self.inside.own) c.self.inside.before.items c.deref.result.now c.args.test c.earlier_than.result.now c.self.invariant.1 c.deref.ensures.value inside c.earlier_than.ensures in
    record { in_range = read_known c.self.invariant.0 c.args.test 0 c.earlier_than.result.now c.deref-2.result.now tests_is c.deref-2.ensures.value }

pub returns-clause-ready : goal.returns-clause-ready
returns-clause-ready g c =
    let inside = rw (← c.self.view_is) at c.requires.in_job in
    let tests_is = kept_before (job_value c.self.inside.own) c.self.inside.before.items c.deref.result.now c.args.test c.earlier_than.result.now c.self.invariant.1 c.deref.ensures.value inside c.earlier_than.ensures in
    let after = read_after c.self.invariant.0 c.args.test c.latest_end.result c.earlier_than.result.now c.deref-2.result.now tests_is c.deref-2.ensures.value c.latest_end.ensures.latest in
    let most = read_most c.self.invariant.0 c.args.test c.latest_end.result c.earlier_than.result.now c.deref-2.result.now tests_is c.deref-2.ensures.value c.latest_end.ensures.is in
    let least = ready-least (job_value c.self.inside.own) c.self.inside.trail.items c.args.test c.latest_end.result after in
    subst (λ (t : TableValue). c.latest_end.result ≡ ready_at t.job t.placed c.args.test) c.self.view_is (omega (arith, most, least))

pub returns-clause-after : goal.returns-clause-after
returns-clause-after g c =
    let inside = subst (λ (t : TableValue). c.args.test < length t.job.tests) (sym c.self.view_is) c.requires.in_job in
    let tests_is = kept_before (job_value c.self.inside.own) c.self.inside.before.items c.deref.result.now c.args.test c.earlier_than.result.now c.self.invariant.1 c.deref.ensures.value inside c.earlier_than.ensures in
    let after = read_after c.self.invariant.0 c.args.test c.latest_end.result c.earlier_than.result.now c.deref-2.result.now tests_is c.deref-2.ensures.value c.latest_end.ensures.latest in
    subst (λ (t : TableValue). ComesAfter t.job t.placed c.args.test c.latest_end.result) c.self.view_is after

pub returns-clause-most : goal.returns-clause-most
returns-clause-most g c =
    let inside = rw (← c.self.view_is) at c.requires.in_job in
    let tests_is = kept_before (job_value c.self.inside.own) c.self.inside.before.items c.deref.result.now c.args.test c.earlier_than.result.now c.self.invariant.1 c.deref.ensures.value inside c.earlier_than.ensures in
    let most = read_most c.self.invariant.0 c.args.test c.latest_end.result c.earlier_than.result.now c.deref-2.result.now tests_is c.deref-2.ensures.value c.latest_end.ensures.is in
    let last = ready-le-last (job_value c.self.inside.own) c.self.inside.trail.items c.args.test in
    subst (λ (t : TableValue). c.latest_end.result ≤ last_end t.job t.placed) c.self.view_is (omega (arith, most, last))
