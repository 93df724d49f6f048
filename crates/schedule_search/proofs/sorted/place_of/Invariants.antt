use Rattle.std.proofs.Common.{◌≡◌, ◌-◌, ◌<◌, ◌≤◌, ℕ, true, false, length, get_or}
use Rattle.resource_table.specs.Jobs.{job_value}
use Rattle.schedule_search.specs.Walks.{goes_before}
use Rattle.schedule_search.proofs.sorted.place_of.Given as goal

abbrev pub invariant-loop-low : goal.invariant-loop-low
invariant-loop-low l = record {
  few : l.low ≤ l.high;
  most : l.high ≤ length l.tests;
  before : (k : ℕ) → k < l.low → goes_before (job_value l.job) (get_or l.tests k 0) l.test ≡ true;
  behind : (k : ℕ) → l.high ≤ k → k < length l.tests → goes_before (job_value l.job) (get_or l.tests k 0) l.test ≡ false;
}

abbrev pub decreases-loop-low : goal.decreases-loop-low
decreases-loop-low l = l.high - l.low
