use Rattle.std.{proofs.Common.◌≡◌, proofs.Common.take, proofs.Common.length, specs.List.sum_by}
use Rattle.resource_table.specs.declared.JobTest.{JobTest}
use Rattle.resource_table.proofs.table.count_steps.Given as goal

abbrev pub invariant-loop-test : goal.invariant-loop-test
invariant-loop-test l = l.steps ≡ sum_by (λ (t : JobTest). length t.power.items) (take l.test-index l.tests)
