use Rattle.schedule_search.proofs.CycleCounts.{takes_once, some_takes, takes_short}
use Rattle.schedule_search.proofs.order_laws.orders_take_cycles.Goals as goal

pub returns : goal.returns
returns c = record {
  some = (λ job order sound topological. some_takes job order sound topological.ready);
  once = takes_once;
  short = (λ job order cycles sound topological takes. takes_short job order cycles sound topological.ready takes);
}
