use Rattle.std.proofs.Common.{length}
use Rattle.row_runner.proofs.texts.bytes_of_text.Given as goal

abbrev pub decreases-loop-piece : goal.decreases-loop-piece
decreases-loop-piece l = length l.left
