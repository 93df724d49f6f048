use Rattle.std.proofs.Common.{◌+◌, ◌<◌, ◌≤◌, ℕ, length, arith}
use Rattle.resource_table.specs.Jobs.{job_value}
use Rattle.schedule_search.specs.Exchanges.{NoGainAt, NoExchangeHelps}
use Rattle.schedule_search.proofs.Exchanging.{if_none}
use Rattle.schedule_search.proofs.exchanges.exchange_first.Goals as goal

pub returns-clause-none_helps : goal.returns-clause-none_helps
returns-clause-none_helps g c =
    if_none c.exchange_from.result ((later : ℕ) → 0 ≤ later → later + 1 < length c.args.order.now → NoGainAt (job_value c.args.job.now) c.args.order.now later c.args.cycles) (NoExchangeHelps (job_value c.args.job.now) c.args.order.now c.args.cycles) (λ none place within. none place (omega arith) within) c.exchange_from.ensures.none_helps
