use Rattle.std.proofs.Common.{◌≡◌, ◌++◌, length, take, drop}
use Rattle.leaf_bounds.specs.Cases.{tightened_below}
use Rattle.leaf_bounds.specs.Trails.{IsRoomy, IsLater}
use Rattle.leaf_bounds.proofs.widths.tighten_ranks.Given as goal

abbrev pub invariant-loop-rank : goal.invariant-loop-rank
invariant-loop-rank l = record {
  roomy : IsRoomy l.widths;
  later : IsLater l.initial.widths l.widths;
  long : length l.widths.intervals.items ≡ length l.initial.widths.intervals.items;
  done : take l.rank l.widths.intervals.items ++ tightened_below l.more l.above (drop l.rank l.widths.intervals.items) ≡ tightened_below l.more 256 l.initial.widths.intervals.items;
}
