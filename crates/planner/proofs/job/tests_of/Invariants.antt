use Rattle.std.proofs.Common.{◌≡◌, ◌++◌, map, drop}
use Rattle.soc_model.specs.Chips.{live_from, live_tests}
use Rattle.resource_table.specs.Jobs.{test_value}
use Rattle.planner.specs.Jobs.{test_of}
use Rattle.planner.specs.Sources.{chip_of, limits_of, plan_of}
use Rattle.planner.proofs.job.tests_of.Given as goal

abbrev pub invariant-loop-place : goal.invariant-loop-place
invariant-loop-place l =
    let source = l.parts.source.now in
    let made = test_of (chip_of source) (limits_of source) (plan_of source) in
    map test_value l.tests.items ++ map made (live_from l.place (drop l.place (chip_of source).modules)) ≡ map made (live_tests (chip_of source))
