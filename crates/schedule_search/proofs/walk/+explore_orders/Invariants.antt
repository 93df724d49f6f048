use Rattle.std.proofs.Common.{◌≡◌, ◌<◌, ◌≤◌, ◌+◌, ◌-◌, ◌*◌, ◌∷◌, ◌++◌, [], ℕ, false, length, get_or, vec_capacity}
use Rattle.resource_table.specs.Jobs.{job_value}
use Rattle.schedule_search.specs.Prefixes.{followers, IsAt, IsOut}
use Rattle.schedule_search.specs.Taken.{IsTakenOut}
use Rattle.schedule_search.specs.Progress.{stand_of, IsBest, NoneBefore, Explored}
use Rattle.schedule_search.proofs.Walking.{tried}
use Rattle.schedule_search.proofs.walk.+explore_orders.Given as goal

abbrev pub decreases-explore_orders : goal.decreases-explore_orders
decreases-explore_orders g l = (length (job_value l.job.now).tests - length l.prefix.now.tests.items) * 2 + 1

abbrev pub decreases-go_on : goal.decreases-go_on
decreases-go_on g l = (length (job_value l.job.now).tests - length l.prefix.now.tests.items) * 2

abbrev pub invariant-explore_orders-loop-place : goal.invariant-explore_orders-loop-place
invariant-explore_orders-loop-place g l = record {
  table : l.table ≡ l.fn.table;
  few : l.place ≤ length (followers (job_value l.job) l.fn.prefix.tests.items);
  out : l.place < length (followers (job_value l.job) l.fn.prefix.tests.items) → IsOut (job_value l.job) l.fn.prefix.tests.items l.taken.test l.prefix;
  taken_out : l.place < length (followers (job_value l.job) l.fn.prefix.tests.items) → IsTakenOut (job_value l.job) l.fn.prefix.tests.items l.place l.taken;
  back : l.place ≡ length (followers (job_value l.job) l.fn.prefix.tests.items) → IsAt (job_value l.job) l.fn.prefix.tests.items l.prefix;
  best_room : vec_capacity l.progress.best ≡ vec_capacity l.initial.progress.best;
  going : l.progress.refused ≡ false;
  within : l.progress.entered ≤ l.tries.budget;
  best : IsBest (job_value l.job) (stand_of l.progress);
  none_before : (later : ℕ) → l.place ≤ later → later < length (followers (job_value l.job) l.fn.prefix.tests.items) → NoneBefore (job_value l.job) (l.fn.prefix.tests.items ++ get_or (followers (job_value l.job) l.fn.prefix.tests.items) later 0 ∷ []) l.progress.best.items;
  explored : Explored (job_value l.job) l.tries.budget (tried (job_value l.job) (length (job_value l.job).tests - length l.fn.prefix.tests.items - 1) l.fn.prefix.tests.items l.place) (stand_of l.fn.progress) (stand_of l.progress);
}

abbrev pub decreases-explore_orders-loop-place : goal.decreases-explore_orders-loop-place
decreases-explore_orders-loop-place g l = length (followers (job_value l.job) l.fn.prefix.tests.items) - l.place
