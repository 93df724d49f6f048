use Rattle.std.proofs.Common.{◌≡◌, true, take, All}
use Rattle.resource_table.specs.Schedules.{is_placed}
use Rattle.arch_schedule.proofs.scheduling.all_placed.Given as goal

abbrev pub invariant-loop-test : goal.invariant-loop-test
invariant-loop-test g l = All (λ test. is_placed l.table.placed test ≡ true) (take l.test-index l.tests)
