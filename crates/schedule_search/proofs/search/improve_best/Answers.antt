use Rattle.std.proofs.Common.{◌≡◌, ◌∙◌, ℕ, List, length, sym, ap, subst}
use Rattle.std.specs.Vec.{with_items}
use Rattle.std.proofs.lemmas.List.{with_items_is}
use Rattle.resource_table.specs.Jobs.{job_value}
use Rattle.schedule_search.specs.Progress.{stand_of}
use Rattle.schedule_search.specs.Begun.{IsImproved}
use Rattle.schedule_search.proofs.Searching.{improved}
use Rattle.schedule_search.proofs.search.improve_best.Goals as goal

pub returns-then-len-le-EXCHANGED_MOST-clause-improved : goal.returns-then-len-le-EXCHANGED_MOST-clause-improved
returns-then-len-le-EXCHANGED_MOST-clause-improved g c =
    let job = job_value c.args.job.now in
    let order : List ℕ = c.improve_order-progress.new.order in
    let long : length order ≡ c.args.progress.now.best.len = c.improve_order-progress.ensures.long ∙ ap length c.deref_mut.ensures.value ∙ sym c.args.progress.now.best.ok.0 in
    let written : (with_items c.args.progress.now.best order).items ≡ order = with_items_is c.args.progress.now.best order long in
    subst (λ (l : List ℕ). IsImproved job (stand_of c.args.progress.now) (record (stand_of c.args.progress.now) { best = l; cycles = c.improve_order-progress.result })) (sym written)
    (improved job (stand_of c.args.progress.now) order c.improve_order-progress.result c.improve_order-progress.ensures.topological c.improve_order-progress.ensures.takes c.improve_order-progress.ensures.most (λ same. c.improve_order-progress.ensures.unchanged same ∙ c.deref_mut.ensures.value) c.improve_order-progress.ensures.none_helps)
