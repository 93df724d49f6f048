use Rattle.std.proofs.Common.{◌≡◌, length}
use Rattle.soc_model.specs.Chips.{soc_value}
use Rattle.live_tests.proofs.FoundPlaced.{AreWalkedSoFar}
use Rattle.live_tests.proofs.placed.PlannedChip.wrappers.Given as goal

abbrev pub invariant-loop-place : goal.invariant-loop-place
invariant-loop-place l = (length l.wrappers.items ≡ l.place) × AreWalkedSoFar (soc_value l.self.soc.now) l.self.index.now l.wrappers.items
