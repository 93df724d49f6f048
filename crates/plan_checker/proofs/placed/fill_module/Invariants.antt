use Rattle.std.proofs.Common.{◌≡◌, ◌+◌, ◌++◌, length, take}
use Rattle.soc_model.specs.Chips.{module_value}
use Rattle.plan_model.specs.Views.{plan_value}
use Rattle.live_tests.specs.Placed.{placed_in}
use Rattle.plan_checker.proofs.placed.fill_module.Given as goal

abbrev pub invariant-loop-test : goal.invariant-loop-test
invariant-loop-test l = record {
  count : l.next ≡ l.done + length (placed_in (plan_value l.from.plan.now) l.place (module_value l.«module») (take l.test-index l.«module».tests.items));
  filled : take l.next l.placed ≡ take l.done l.fn.placed ++ placed_in (plan_value l.from.plan.now) l.place (module_value l.«module») (take l.test-index l.«module».tests.items);
}
