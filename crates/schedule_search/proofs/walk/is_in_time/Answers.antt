use Rattle.std.proofs.Common.{◌≡◌, ◌∙◌, sym, ap, arith, ltb-true}
use Rattle.resource_table.specs.Jobs.{JobValue, cycles_of}
use Rattle.resource_table.proofs.Ready.{ready-least}
use Rattle.schedule_search.proofs.walk.is_in_time.Goals as goal

pub returns : goal.returns
returns g c = λ yes'.
    let own : c.cycles_at.result ≡ cycles_of c.args.table.now.job c.args.test = c.cycles_at.ensures ∙ ap (λ (j : JobValue). cycles_of j c.args.test) (sym c.requires.job) in
    let ready = ready-least c.args.table.now.job c.args.table.now.placed c.args.test c.calm_start-start.result c.calm_start-start.ensures.fits.after in
    omega (arith, own, ready, ltb-true c.calm_start-start.result c.saturating_sub.result yes', c.saturating_sub.ensures)
