use Rattle.std.proofs.Common.{◌≡◌, ◌+◌, ◌<◌, length, refl, sym, subst, ap, arith}
use Rattle.resource_table.specs.Jobs.{TestValue, job_value, test_value, cycles_of}
use Rattle.resource_table.{specs.Schedules.TableValue, specs.Schedules.last_end, proofs.KeptStarts.wanted_is, proofs.KeptStarts.short_enough}
use Rattle.resource_table.proofs.table.TableOf.end_now.Goals as goal

pub overflow_add-result : goal.overflow_add-result
overflow_add-result g c =
    let inside = rw (← c.self.view_is) at c.requires.in_job in
    let wanted = wanted_is c.self.inside.own.tests.items c.args.test c.index.result.now inside c.index.ensures in
    let most = rw (← c.self.view_is) at c.earliest.ensures.at_last in
    let small = short_enough c.self.invariant.0 c.args.test inside (test_value c.index.result.now) wanted (last_end (job_value c.self.inside.own) c.self.inside.trail.items) refl in
    omega (arith, small, most)

pub returns-clause-end : goal.returns-clause-end
returns-clause-end g c =
    let inside = subst (λ (t : TableValue). c.args.test < length t.job.tests) (sym c.self.view_is) c.requires.in_job in
    let wanted = wanted_is c.self.inside.own.tests.items c.args.test c.index.result.now inside c.index.ensures in
    (c.earliest.result, c.earliest.ensures.earliest, subst (λ (t : TableValue). c.earliest.result + c.index.result.now.length ≡ c.earliest.result + cycles_of t.job c.args.test) c.self.view_is (ap (λ (t : TestValue). c.earliest.result + t.cycles) wanted))
