use Rattle.std.proofs.Common.{◌≡◌, Some, List, ◌++◌, slice_get}
use Rattle.soc_model.specs.Chips.{SocValue, LiveTest, module_value}
use Rattle.leaf_bounds.specs.TestTables.{AreTestsAt}
use Rattle.leaf_bounds.proofs.TestTables.{live_front}
use Rattle.leaf_bounds.proofs.test_table.push_tests.Given as goal

abbrev pub invariant-loop-test : goal.invariant-loop-test
invariant-loop-test l = (soc : SocValue) (ls : List LiveTest) → slice_get soc.modules l.place ≡ Some (module_value l.«module») → AreTestsAt soc l.limits ls l.initial.tests.items →
    AreTestsAt soc l.limits (ls ++ live_front l.place (module_value l.«module») (module_value l.«module»).tests l.test) l.tests.items
