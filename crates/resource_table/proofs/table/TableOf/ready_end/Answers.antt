use Rattle.std.proofs.Common.{refl, arith}
use Rattle.resource_table.specs.{Jobs.job_value, Jobs.test_value, Schedules.last_end}
use Rattle.resource_table.proofs.KeptStarts.{wanted_is, short_enough}
use Rattle.resource_table.proofs.table.TableOf.ready_end.Goals as goal

pub overflow_add-result : goal.overflow_add-result
overflow_add-result g c =
    let inside = rw (← c.self.view_is) at c.requires.in_job in
    let wanted = wanted_is c.self.inside.own.tests.items c.args.test c.index.result.now inside c.index.ensures in
    let most = rw (← c.self.view_is) at c.ready.ensures.most in
    let small = short_enough c.self.invariant.0 c.args.test inside (test_value c.index.result.now) wanted (last_end (job_value c.self.inside.own) c.self.inside.trail.items) refl in
    omega (arith, small, most)
