use Rattle.fail_locate.specs.Wired.{AreWired}
use Rattle.fail_locate.proofs.KeptTests.{placed_from}
use Rattle.fail_locate.proofs.wired.wired_tests.Given as goal

abbrev pub invariant-loop-place : goal.invariant-loop-place
invariant-loop-place l = AreWired l.placed.soc l.placed.plan (placed_from l.placed.plan l.placed.soc.modules l.place) l.tests.items
