use Rattle.std.proofs.Common.{length}
use Rattle.plan_model.specs.Rules.{Each}
use Rattle.resource_table.specs.Jobs.{job_value}
use Rattle.schedule_search.specs.Orders.{IsLongest}
use Rattle.schedule_search.specs.Prefixes.{IsAt}
use Rattle.schedule_search.proofs.order.first_by.Given as goal

abbrev pub invariant-loop-prefix : goal.invariant-loop-prefix
invariant-loop-prefix l = record {
  at : IsAt (job_value l.job) l.prefix.tests.items l.prefix;
  longest : Each (IsLongest (job_value l.job)) l.prefix.tests.items;
}

abbrev pub decreases-loop-prefix : goal.decreases-loop-prefix
decreases-loop-prefix l = length l.prefix.rest.items
