use Rattle.std.proofs.Common.{◌≡◌, ◌≤◌, length}
use Rattle.resource_table.specs.Jobs.{job_value}
use Rattle.schedule_search.specs.Orders.{IsTopological}
use Rattle.schedule_search.specs.OrderCycles.{Takes}
use Rattle.schedule_search.proofs.exchanges.improve_order.Given as goal

abbrev pub invariant-exchanges : goal.invariant-exchanges
invariant-exchanges g l = record {
  topological : IsTopological (job_value l.job) l.order;
  takes : Takes (job_value l.job) l.order l.best;
  most : l.best ≤ l.cycles;
  unchanged : l.best ≡ l.cycles → l.order ≡ l.initial.order;
  long : length l.order ≡ length l.initial.order;
  table : l.table ≡ l.initial.table;
}

abbrev pub decreases-exchanges : goal.decreases-exchanges
decreases-exchanges g l = l.best
