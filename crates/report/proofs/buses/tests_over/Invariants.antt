use Rattle.std.proofs.Common.{◌≡◌, ◌+◌, ◌≤◌, drop}
use Rattle.report.specs.BusLines.{tests_over}
use Rattle.report.proofs.buses.tests_over.Given as goal

abbrev pub invariant-loop-test : goal.invariant-loop-test
invariant-loop-test l = (l.count + tests_over (drop l.test-index l.tests) l.place ≡ tests_over l.tests l.place) × (l.count ≤ l.test-index)
