use Rattle.std.proofs.Common.{◌≡◌, ◌+◌, drop}
use Rattle.report.specs.Totals.{busy_area}
use Rattle.report.proofs.totals.busy_area.Given as goal

abbrev pub invariant-loop-test : goal.invariant-loop-test
invariant-loop-test l = l.busy + busy_area l.ws (drop l.test-index l.tests) ≡ busy_area l.ws l.tests
