use Rattle.std.proofs.Common.{◌≡◌, take, map}
use Rattle.resource_table.specs.Jobs.{test_value, tests_over}
use Rattle.resource_table.proofs.table.send_over.Given as goal

abbrev pub invariant-loop-place : goal.invariant-loop-place
invariant-loop-place l = map test_value l.tests ≡ tests_over (take l.place l.buses) (take l.place l.lengths) (map test_value l.initial.tests)
