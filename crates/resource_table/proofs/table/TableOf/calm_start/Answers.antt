use Rattle.std.proofs.Common.{◌<◌, length, sym, subst, arith}
use Rattle.resource_table.specs.{Calm.IsCalm, Jobs.job_value, Jobs.test_value}
use Rattle.resource_table.specs.Schedules.{TableValue, last_end, StaysWithin, Fits}
use Rattle.resource_table.proofs.{KeptStarts.wanted_is, KeptStarts.calm_within, KeptStarts.steps_low, Schedules.fits_at_last}
use Rattle.resource_table.proofs.table.TableOf.calm_start.Goals as goal

pub returns-then-not-are_low-clause-fits : goal.returns-then-not-are_low-clause-fits
returns-then-not-are_low-clause-fits g c =
    let inside = subst (λ (t : TableValue). c.args.test < length t.job.tests) (sym c.self.view_is) c.requires.in_job in
    let fits = subst (λ (t : TableValue). Fits t.job t.placed c.args.test (last_end t.job t.placed)) c.self.view_is (fits_at_last (job_value c.self.inside.own) c.self.inside.trail.items c.args.test c.self.invariant.0.sound.job inside) in
    subst (Fits c.args.self.now.job c.args.self.now.placed c.args.test) (sym c.last-last.ensures.last) fits

pub returns-clause-fits : goal.returns-clause-fits
returns-clause-fits g c =
    let inside = subst (λ (t : TableValue). c.args.test < length t.job.tests) (sym c.self.view_is) c.requires.in_job in
    let wanted = wanted_is c.self.inside.own.tests.items c.args.test c.index.result.now inside c.index.ensures in
    let from = c.after_times.ensures.from in
    let calm = subst (λ (t : TableValue). IsCalm t.job t.placed c.args.most c.args.calm) (sym c.self.view_is) c.requires.calm in
    record {
      apart = c.after_times.ensures.apart;
      power = subst (λ (t : TableValue). StaysWithin t.job t.placed c.args.test c.after_times.result) c.self.view_is
          (calm_within c.self.invariant.0 c.args.test inside (test_value c.index.result.now) wanted c.args.most c.args.calm c.after_times.result c.deref.result.now c.deref.ensures.value calm (omega (arith, from, c.max-first.ensures)) (steps_low c.deref.result.now c.args.most (c.are_low.ensures c.if-not-are_low.false)));
      after = (λ n p at before. let end = c.ready.ensures.after n p at before in omega (arith, end, from, c.max-first.ensures));
    }
