use Rattle.std.proofs.Common.{◌≡◌, length}
use Rattle.limits_text.specs.Orders.{IsKept, GoesOn}
use Rattle.limits_text.proofs.Taking.{AreReleased}
use Rattle.limits_text.proofs.graph.release_tests.Given as goal

abbrev pub invariant-loop-test : goal.invariant-loop-test
invariant-loop-test l = record {
  long : length l.counts.items ≡ length l.initial.counts.items;
  kept : IsKept l.counts.items (length l.initial.counts.items) l.order.items;
  goes_on : GoesOn l.initial.order.items l.order.items;
  counts : AreReleased l.initial.counts.items l.counts.items l.tests l.test-index;
}
