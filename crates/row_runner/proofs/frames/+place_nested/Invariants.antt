use Rattle.std.proofs.Common.{length}
use Rattle.row_runner.proofs.frames.+place_nested.Given as goal

abbrev pub decreases-place_nested : goal.decreases-place_nested
decreases-place_nested g l = length l.tests.now
