use Rattle.std.proofs.Common.{◌≡◌, take, slice_index, sum_by}
use Rattle.bit_machine.proofs.capturing.length_of.Given as goal

abbrev pub invariant-loop-scan : goal.invariant-loop-scan
invariant-loop-scan l = l.flops ≡ sum_by (slice_index l.lengths) (take l.scan-index l.chain.scans.items)
