use Rattle.std.proofs.Common.{◌<◌, ◌≤◌, length, sym, subst, arith}
use Rattle.resource_table.specs.{Jobs.job_value, Schedules.TableValue, Schedules.last_end}
use Rattle.resource_table.proofs.{Ready.ready-least, Bounds.noted, Schedules.fits_at_last}
use Rattle.resource_table.proofs.table.TableOf.begin.Goals as goal

pub returns-clause-after : goal.returns-clause-after
returns-clause-after g c = λ n p at before. let end = c.ready.ensures.after n p at before in omega (arith, end, c.max.ensures)

pub returns-clause-most : goal.returns-clause-most
returns-clause-most g c =
    let inside = subst (λ (t : TableValue). c.args.test < length t.job.tests) (sym c.self.view_is) c.requires.in_job in
    let fits = fits_at_last (job_value c.self.inside.own) c.self.inside.trail.items c.args.test c.self.invariant.0.sound.job inside in
    let most = subst (λ (t : TableValue). c.index.result.now.start ≤ last_end t.job t.placed) c.self.view_is
    (noted (job_value c.self.inside.own) c.self.inside.trail.items c.self.inside.bounds c.self.invariant.4 c.args.test (last_end (job_value c.self.inside.own) c.self.inside.trail.items) c.index.result.now inside fits c.index.ensures) in
    omega (arith, most, c.ready.ensures.most, c.max.ensures)

pub returns-clause-least : goal.returns-clause-least
returns-clause-least g c other fits =
    let inside = rw (← c.self.view_is) at c.requires.in_job in
    let here = rw (← c.self.view_is) at fits in
    let bound = noted (job_value c.self.inside.own) c.self.inside.trail.items c.self.inside.bounds c.self.invariant.4 c.args.test other c.index.result.now inside here c.index.ensures in
    omega (arith, ready-least c.args.self.now.job c.args.self.now.placed c.args.test other fits.after, bound, c.ready.ensures.ready, c.max.ensures)
