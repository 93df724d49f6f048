use Rattle.std.proofs.Common.{◌+◌, ◌≤◌}
use Rattle.busy_times.proofs.marks.missing.Given as goal

abbrev pub invariant-loop-left : goal.invariant-loop-left
invariant-loop-left l = record {
  few : l.count + l.left ≤ l.first;
}

abbrev pub decreases-loop-left : goal.decreases-loop-left
decreases-loop-left l = l.left
