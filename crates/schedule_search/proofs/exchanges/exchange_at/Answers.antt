use Rattle.std.proofs.Common.{◌∙◌, ℕ, List, ap, subst, sym}
use Rattle.resource_table.specs.Jobs.{job_value}
use Rattle.schedule_search.specs.OrderCycles.{Takes}
use Rattle.schedule_search.specs.Exchanges.{exchanged}
use Rattle.schedule_search.proofs.Exchanging.{exchanged_back}
use Rattle.schedule_search.specs.Orders.{IsTopological}
use Rattle.schedule_search.proofs.exchanges.exchange_at.Goals as goal

pub returns-clause-stays : goal.returns-clause-stays
returns-clause-stays g c =
    c.swap-2.ensures.after ∙ ap (λ (l : List ℕ). exchanged l c.args.place) c.swap.ensures.after ∙ exchanged_back c.args.order.now c.args.place c.requires.within

pub returns-clause-no_gain : goal.returns-clause-no_gain
returns-clause-no_gain g c = λ cycles topological takes.
    c.in_default.ensures.none cycles (subst (λ (l : List ℕ). Takes (job_value c.args.job.now) l cycles) (sym c.swap.ensures.after) takes)

pub fewer_cycles-requires-clause-topological : goal.fewer_cycles-requires-clause-topological
fewer_cycles-requires-clause-topological g c = subst (IsTopological (job_value c.args.job.now)) (sym c.swap.ensures.after) (c.may_exchange.ensures.may c.if-not-may_exchange.false)

pub returns-in-Some-clause-fewer : goal.returns-in-Some-clause-fewer
returns-in-Some-clause-fewer g c = record {
  topological = subst (IsTopological (job_value c.args.job.now)) (sym c.swap.ensures.after) (c.may_exchange.ensures.may c.if-not-may_exchange.false);
  takes = c.in-Some.ensures.takes;
  fewer = c.in-Some.ensures.fewer;
  long = c.swap.ensures.len;
}
