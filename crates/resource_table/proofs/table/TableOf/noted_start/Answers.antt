use Rattle.std.proofs.Common.{◌≡◌, ◌<◌, ◌+◌, length, sym, subst}
use Rattle.resource_table.specs.{declared.history.Note.Note, Jobs.job_value, Schedules.TableValue, Schedules.IsEarliest}
use Rattle.resource_table.proofs.Bounds.{bounded_note}
use Rattle.resource_table.proofs.table.TableOf.noted_start.Goals as goal

pub invariant_of-self : goal.invariant_of-self
invariant_of-self g c =
    let inside = subst (λ (t : TableValue). c.args.test < length t.job.tests) (sym c.self.view_is) c.requires.in_job in
    let earliest = subst (λ (t : TableValue). IsEarliest t.job t.placed c.args.test c.earliest-start.result) (sym c.self.view_is) c.earliest-start.ensures.earliest in (
      c.self.invariant.0,
      c.self.invariant.1,
      c.self.invariant.2,
      c.self.invariant.3,
      bounded_note (job_value c.self.inside.own) c.self.inside.trail.items c.self.inside.bounds c.renew_note.new.history c.args.test (let n : Note = record { start = c.earliest-start.result; depth = c.depth-depth.result } in n) c.self.invariant.4 c.renew_note.ensures.history inside earliest
          (subst (λ (t : TableValue). c.depth-depth.result ≡ length t.placed + 1) (sym c.self.view_is) c.depth-depth.ensures.depth) c.renew_note.ensures.values c.renew_note.ensures.past c.renew_note.ensures.marks,
    )
