use Rattle.std.proofs.Common.{ℕ, ◌-◌, ◌≤◌}
use Rattle.busy_times.specs.BusyTimes.{IsFree}
use Rattle.busy_times.proofs.timelines.after_busy.Given as goal

abbrev pub invariant-starts : goal.invariant-starts
invariant-starts l = record {
  from : l.start ≤ l.found;
  most : l.found ≤ l.last;
  least : (other : ℕ) → l.start ≤ other → IsFree l.times l.places l.length other → l.found ≤ other;
}

abbrev pub decreases-starts : goal.decreases-starts
decreases-starts l = l.last - l.found
