use Rattle.std.proofs.Common.{◌≡◌, ℕ, ◌<◌, length, take, get_or}
use Rattle.std.specs.{Prelude.if◌then◌else◌, List.sum_by}
use Rattle.resource_table.specs.{Jobs.test_value, PlacedTimes.takes}
use Rattle.resource_table.proofs.empty_times.count_takers.Given as goal

abbrev pub invariant-loop-test : goal.invariant-loop-test
invariant-loop-test l = record {
  long : length l.counts.items ≡ l.count;
  counts : (k : ℕ) → k < l.count → get_or l.counts.items k 0 ≡ sum_by (λ t. if takes l.kind k (test_value t) then 1 else 0) (take l.test-index l.tests);
}
