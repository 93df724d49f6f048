use Rattle.std.proofs.Common.{◌≡◌, ◌<◌, ◌∙◌, length, sym, subst}
use Rattle.resource_table.{specs.Schedules.TableValue, specs.Schedules.is_placed, proofs.KeptTables.kept_is_placed}
use Rattle.resource_table.proofs.table.TableOf.is_placed.Goals as goal

pub returns-clause-placed : goal.returns-clause-placed
returns-clause-placed g c =
    let inside = subst (λ (t : TableValue). c.args.test < length t.job.tests) (sym c.self.view_is) c.requires.in_job in
    subst (λ (t : TableValue). c.is_some.result ≡ is_placed t.placed c.args.test) c.self.view_is
    (c.is_some.ensures ∙ kept_is_placed c.self.invariant.0 c.args.test c.index.result.now inside c.index.ensures)
