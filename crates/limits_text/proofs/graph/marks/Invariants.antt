use Rattle.std.proofs.Common.{◌≡◌, length, take}
use Rattle.limits_text.specs.Orders.{AreMarked}
use Rattle.limits_text.proofs.graph.marks.Given as goal

abbrev pub invariant-loop-test : goal.invariant-loop-test
invariant-loop-test l = (length l.gone.items ≡ l.count) × AreMarked l.gone.items (take l.test-index l.order)
