use Rattle.std.proofs.Common.{◌++◌, List, take}
use Rattle.soc_model.specs.Chips.{module_value}
use Rattle.plan_model.specs.Plans.{PlannedTest}
use Rattle.fail_locate.specs.Wired.{AreWired, placed_tests}
use Rattle.fail_locate.proofs.wired.push_module.Given as goal

abbrev pub invariant-loop-at : goal.invariant-loop-at
invariant-loop-at l = (done : List PlannedTest) → AreWired l.placed.soc l.placed.plan done l.initial.tests.items →
    AreWired l.placed.soc l.placed.plan (done ++ placed_tests l.placed.plan l.place (module_value l.«module») (take l.at l.«module».tests.items)) l.tests.items
