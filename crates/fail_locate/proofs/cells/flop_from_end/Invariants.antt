use Rattle.std.proofs.Common.{◌≡◌, ◌≤◌, length, reverse, slice_get, flat_map}
use Rattle.plan_model.specs.Cells.{flops}
use Rattle.fail_locate.proofs.EndCells.{turned}
use Rattle.fail_locate.proofs.cells.flop_from_end.Given as goal

abbrev pub invariant-loop-place : goal.invariant-loop-place
invariant-loop-place l = record {
  within : l.place ≤ length l.scans;
  same : slice_get (turned l.lengths l.scans l.place) l.left ≡ slice_get (reverse (flat_map (flops l.lengths) l.scans)) l.initial.left;
}

abbrev pub decreases-loop-place : goal.decreases-loop-place
decreases-loop-place l = l.place
