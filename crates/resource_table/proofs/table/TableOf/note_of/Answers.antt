use Rattle.std.proofs.Common.{◌≡◌, ◌<◌, ◌≤◌, ◌+◌, length, sym, subst}
use Rattle.resource_table.specs.{Jobs.job_value, Schedules.TableValue, Schedules.last_end, Schedules.IsEarliest}
use Rattle.resource_table.proofs.{Schedules.fits_at_last, Bounds.noted_found}
use Rattle.resource_table.proofs.table.TableOf.note_of.Goals as goal

pub returns-clause-found : goal.returns-clause-found
returns-clause-found g c =
    let inside = subst (λ (t : TableValue). c.args.test < length t.job.tests) (sym c.self.view_is) c.requires.in_job in
    subst (λ (t : TableValue). c.index.result.now.depth ≡ length t.placed + 1 → IsEarliest t.job t.placed c.args.test c.index.result.now.start) c.self.view_is
    (noted_found (job_value c.self.inside.own) c.self.inside.trail.items c.self.inside.bounds c.self.invariant.4 c.args.test c.index.result.now inside c.index.ensures)

pub returns-clause-at_last : goal.returns-clause-at_last
returns-clause-at_last g c =
    let inside = rw (← c.self.view_is) at c.requires.in_job in
    let fits = fits_at_last (job_value c.self.inside.own) c.self.inside.trail.items c.args.test c.self.invariant.0.sound.job inside in
    subst (λ (t : TableValue). c.index.result.now.depth ≡ length t.placed + 1 → c.index.result.now.start ≤ last_end t.job t.placed) c.self.view_is
    (λ same. (noted_found (job_value c.self.inside.own) c.self.inside.trail.items c.self.inside.bounds c.self.invariant.4 c.args.test c.index.result.now inside c.index.ensures same).least (last_end (job_value c.self.inside.own) c.self.inside.trail.items) fits)
