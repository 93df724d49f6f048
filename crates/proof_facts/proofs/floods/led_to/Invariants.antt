use Rattle.std.proofs.Common.{◌+◌, ◌*◌, length, map}
use Rattle.live_tests.specs.Neighbours.{tests_of}
use Rattle.proof_facts.specs.Marks.{IsFlood, unmarked}
use Rattle.proof_facts.proofs.floods.led_to.Given as goal

abbrev pub invariant-loop-test : goal.invariant-loop-test
invariant-loop-test l = IsFlood (map tests_of l.lists) l.from l.marks.items l.stack.items

abbrev pub decreases-loop-test : goal.decreases-loop-test
decreases-loop-test l = length l.stack.items + 2 * unmarked l.marks.items
