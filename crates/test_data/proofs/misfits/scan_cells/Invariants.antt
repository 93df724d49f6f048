use Rattle.std.proofs.Common.{◌≡◌, ◌*◌, ◌≤◌, ◌^◌, sum, take}
use Rattle.test_data.proofs.misfits.scan_cells.Given as goal

abbrev pub invariant-loop-length : goal.invariant-loop-length
invariant-loop-length l = record {
  sum_is : l.sum ≡ sum (take l.length-index l.lengths);
  small : l.sum ≤ l.length-index * 2 ^ 64;
}
