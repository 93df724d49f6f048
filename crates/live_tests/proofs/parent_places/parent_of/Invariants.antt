use Rattle.std.proofs.Common.{length}
use Rattle.soc_model.specs.Chips.{soc_value}
use Rattle.live_tests.proofs.Levels.{IsLook, left_at}
use Rattle.live_tests.proofs.parent_places.parent_of.Given as goal

abbrev pub invariant-loop-at : goal.invariant-loop-at
invariant-loop-at l = IsLook (soc_value l.soc).modules l.place l.at

abbrev pub decreases-loop-at : goal.decreases-loop-at
decreases-loop-at l = left_at (length (soc_value l.soc).modules) l.at
