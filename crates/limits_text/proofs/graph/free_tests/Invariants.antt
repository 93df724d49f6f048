use Rattle.limits_text.specs.Orders.{IsKept}
use Rattle.limits_text.proofs.graph.free_tests.Given as goal

abbrev pub invariant-loop-test : goal.invariant-loop-test
invariant-loop-test l = IsKept l.counts l.test l.order.items
