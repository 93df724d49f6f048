use Rattle.std.proofs.Common.{◌≡◌, ◌++◌, map, drop}
use Rattle.soc_model.specs.Chips.{soc_value, live_from, live_tests}
use Rattle.live_tests.proofs.Placing.{placed_live}
use Rattle.live_tests.proofs.placed.PlannedChip.tests.Given as goal

abbrev pub invariant-loop-place : goal.invariant-loop-place
invariant-loop-place l =
    l.tests.items ++ map (placed_live l.self.index.now) (live_from l.place (drop l.place (soc_value l.self.soc.now).modules)) ≡ map (placed_live l.self.index.now) (live_tests (soc_value l.self.soc.now))
