use Rattle.std.proofs.Common.{◌≡◌, ◌++◌, map, take, filter}
use Rattle.soc_model.specs.Chips.{module_value, is_live}
use Rattle.resource_table.specs.Jobs.{test_value}
use Rattle.planner.specs.Jobs.{test_in}
use Rattle.planner.specs.Sources.{chip_of, limits_of, plan_of}
use Rattle.planner.proofs.job.push_live.Given as goal

abbrev pub invariant-loop-test : goal.invariant-loop-test
invariant-loop-test l =
    map test_value l.tests.items ≡ map test_value l.initial.tests.items
    ++ map (test_in (chip_of l.parts.source.now) (limits_of l.parts.source.now) (plan_of l.parts.source.now) l.place (module_value l.«module»)) (filter is_live (take l.test-index l.test-items))
