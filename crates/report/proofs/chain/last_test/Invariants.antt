use Rattle.std.proofs.Common.{◌≡◌, drop}
use Rattle.report.specs.Chains.{last_test}
use Rattle.report.proofs.chain.last_test.Given as goal

abbrev pub invariant-loop-test : goal.invariant-loop-test
invariant-loop-test l = last_test (drop l.test-index l.tests) l.cycles ≡ last_test l.tests l.cycles
