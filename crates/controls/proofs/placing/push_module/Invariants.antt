use Rattle.std.proofs.Common.{◌≡◌, ◌++◌, take}
use Rattle.soc_model.specs.Chips.{module_value}
use Rattle.controls.specs.Tests.{controlled_in}
use Rattle.controls.proofs.placing.push_module.Given as goal

abbrev pub invariant-loop-test : goal.invariant-loop-test
invariant-loop-test l = l.tests.items ≡ l.initial.tests.items ++ controlled_in l.placed.plan l.place l.before (module_value l.«module») (take l.test-index l.«module».tests.items)
