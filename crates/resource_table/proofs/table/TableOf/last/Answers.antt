use Rattle.std.proofs.Common.{◌≡◌, ◌-◌, length, get_or, ap, ◌∙◌, subst}
use Rattle.resource_table.{specs.Schedules.TableValue, specs.Schedules.last_end, proofs.KeptTables.last_kept}
use Rattle.resource_table.proofs.table.TableOf.last.Goals as goal

pub returns-clause-last : goal.returns-clause-last
returns-clause-last g c =
    subst (λ (t : TableValue). c.last_of.result ≡ last_end t.job t.placed) c.self.view_is
    (c.last_of.ensures ∙ ap (λ v. get_or v (length v - 1) 0) c.deref.ensures.value
    ∙ last_kept c.self.invariant.0)
