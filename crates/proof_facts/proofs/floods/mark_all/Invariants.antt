use Rattle.std.proofs.Common.{take}
use Rattle.proof_facts.specs.Marks.{AreMarked}
use Rattle.proof_facts.proofs.floods.mark_all.Given as goal

abbrev pub invariant-loop-test : goal.invariant-loop-test
invariant-loop-test l = AreMarked (take l.test-index l.tests) l.initial.marks.items l.marks.items l.initial.stack.items l.stack.items
