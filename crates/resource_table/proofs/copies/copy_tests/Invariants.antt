use Rattle.std.proofs.Common.{◌≡◌, map, take}
use Rattle.resource_table.specs.Jobs.{test_value}
use Rattle.resource_table.proofs.copies.copy_tests.Given as goal

abbrev pub invariant-loop-test : goal.invariant-loop-test
invariant-loop-test l = map test_value l.copy.items ≡ map test_value (take l.test-index l.tests)
