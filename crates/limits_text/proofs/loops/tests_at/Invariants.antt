use Rattle.std.proofs.Common.{take}
use Rattle.limits_text.specs.Loops.{AreAt}
use Rattle.limits_text.proofs.loops.tests_at.Given as goal

abbrev pub invariant-loop-place : goal.invariant-loop-place
invariant-loop-place l = AreAt l.ids (take l.place-index l.places) l.tests.items
