use Rattle.std.proofs.Common.{◌≡◌, map}
use Rattle.std.specs.List.{range_with_len}
use Rattle.resource_table.specs.Jobs.{job_value}
use Rattle.schedule_search.proofs.SortedTests.{turn_at}
use Rattle.schedule_search.proofs.tries.sorted_by_length.Given as goal

abbrev pub invariant-loop-place : goal.invariant-loop-place
invariant-loop-place l = l.by_length.items ≡ map (turn_at (job_value l.job)) (range_with_len 0 l.place)
