use Rattle.leaf_bounds.specs.Trails.{HasNoGap}
use Rattle.leaf_bounds.proofs.widths.any_without_width.Given as goal

abbrev pub invariant-loop-rank : goal.invariant-loop-rank
invariant-loop-rank l = record {
  fine : HasNoGap l.widths.intervals.items l.rank;
}
