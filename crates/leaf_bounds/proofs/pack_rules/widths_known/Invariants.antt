use Rattle.std.proofs.Common.{◌≡◌, ◌≤◌, ◌*◌, take, sum_by}
use Rattle.leaf_bounds.specs.PackLeaves.{width_count}
use Rattle.leaf_bounds.proofs.pack_rules.widths_known.Given as goal

abbrev pub invariant-loop-rank : goal.invariant-loop-rank
invariant-loop-rank l = record {
  sum : l.sum ≡ sum_by width_count (take l.rank l.widths.intervals.items);
  few : l.sum ≤ l.rank * 257;
}
