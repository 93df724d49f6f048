use Rattle.std.proofs.Common.{◌≡◌, ◌≤◌, ◌*◌, take}
use Rattle.leaf_bounds.specs.Cases.{least_wires}
use Rattle.leaf_bounds.proofs.widths.least_wires.Given as goal

abbrev pub invariant-loop-interval : goal.invariant-loop-interval
invariant-loop-interval l = record {
  sum : l.least ≡ least_wires (take l.interval-index l.intervals);
  few : l.least ≤ l.interval-index * 256;
}
