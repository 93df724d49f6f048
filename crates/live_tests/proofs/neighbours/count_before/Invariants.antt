use Rattle.std.proofs.Common.{take}
use Rattle.live_tests.proofs.Counts.{AreCounts}
use Rattle.live_tests.proofs.neighbours.count_before.Given as goal

abbrev pub invariant-loop-second : goal.invariant-loop-second
invariant-loop-second l = AreCounts l.count (take l.second-index l.pairs) l.counts.items
