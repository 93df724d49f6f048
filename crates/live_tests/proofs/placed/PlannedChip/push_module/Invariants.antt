use Rattle.std.proofs.Common.{◌≡◌, ◌++◌, take}
use Rattle.soc_model.specs.Chips.{module_value}
use Rattle.live_tests.specs.Placed.{placed_in}
use Rattle.live_tests.proofs.placed.PlannedChip.push_module.Given as goal

abbrev pub invariant-loop-test : goal.invariant-loop-test
invariant-loop-test l = l.tests.items ≡ l.initial.tests.items ++ placed_in l.self.index.now l.place (module_value l.«module») (take l.test-index l.«module».tests.items)
