use Rattle.std.proofs.Common.{◌≡◌, ◌+◌, drop}
use Rattle.report.specs.PlacedTests.{cycles_over}
use Rattle.report.proofs.buses.cycles_over.Given as goal

abbrev pub invariant-loop-test : goal.invariant-loop-test
invariant-loop-test l = l.busy + cycles_over (drop l.test-index l.tests) l.place ≡ cycles_over l.tests l.place
