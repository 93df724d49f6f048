use Rattle.std.proofs.Common.{◌≡◌, ◌++◌, length, map, take, drop}
use Rattle.leaf_bounds.specs.Cases.{at_most}
use Rattle.leaf_bounds.specs.Trails.{IsRoomy, IsLater}
use Rattle.leaf_bounds.proofs.widths.narrow_ranks.Given as goal

abbrev pub invariant-loop-rank : goal.invariant-loop-rank
invariant-loop-rank l = record {
  roomy : IsRoomy l.widths;
  later : IsLater l.initial.widths l.widths;
  long : length l.widths.intervals.items ≡ length l.initial.widths.intervals.items;
  done : take l.rank l.widths.intervals.items ++ map (at_most l.width) (drop l.rank l.widths.intervals.items)
      ≡ take l.from l.initial.widths.intervals.items ++ map (at_most l.width) (drop l.from l.initial.widths.intervals.items);
}
