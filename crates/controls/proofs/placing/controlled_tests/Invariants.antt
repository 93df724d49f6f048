use Rattle.std.proofs.Common.{◌≡◌, ◌++◌, map, drop}
use Rattle.soc_model.specs.Chips.{live_from, live_tests}
use Rattle.controls.specs.Tests.{controlled_live, tam_before}
use Rattle.controls.proofs.placing.controlled_tests.Given as goal

abbrev pub invariant-loop-place : goal.invariant-loop-place
invariant-loop-place l =
    (l.before ≡ tam_before l.placed.soc l.place)
    × (l.tests.items ++ map (controlled_live l.placed.soc l.placed.plan) (live_from l.place (drop l.place l.placed.soc.modules)) ≡ map (controlled_live l.placed.soc l.placed.plan)
    (live_tests l.placed.soc))
