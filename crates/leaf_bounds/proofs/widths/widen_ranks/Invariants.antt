use Rattle.std.proofs.Common.{◌≡◌, ◌++◌, length, map, take, drop}
use Rattle.leaf_bounds.specs.Cases.{at_least}
use Rattle.leaf_bounds.specs.Trails.{IsRoomy, IsLater}
use Rattle.leaf_bounds.proofs.widths.widen_ranks.Given as goal

abbrev pub invariant-loop-rank : goal.invariant-loop-rank
invariant-loop-rank l = record {
  roomy : IsRoomy l.widths;
  later : IsLater l.initial.widths l.widths;
  long : length l.widths.intervals.items ≡ length l.initial.widths.intervals.items;
  done : l.widths.intervals.items ≡ map (at_least l.width) (take l.rank l.initial.widths.intervals.items) ++ drop l.rank l.initial.widths.intervals.items;
}
