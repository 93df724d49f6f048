use Rattle.std.proofs.Common.{◌≡◌, ℕ, List, sym, subst}
use Rattle.resource_table.specs.Jobs.{job_value}
use Rattle.schedule_search.specs.Exchanges.{NoExchangeHelps}
use Rattle.schedule_search.proofs.exchanges.improve_order.Goals as goal

pub returns-in-None-clause-none_helps : goal.returns-in-None-clause-none_helps
returns-in-None-clause-none_helps g c =
    let stays : c.exchange_first.new.order ≡ c.exchanges.order = c.in-None.ensures.stays in
    subst (λ (l : List ℕ). NoExchangeHelps (job_value c.args.job.now) l c.exchanges.best) (sym stays) c.in-None.ensures.none_helps
