use Rattle.std.proofs.Common.{◌∙◌, map, sym, append-nil, arith}
use Rattle.std.proofs.lemmas.List.{drop_all}
use Rattle.soc_model.specs.Chips.{module_value, live_from}
use Rattle.resource_table.specs.Jobs.{test_value}
use Rattle.planner.specs.Jobs.{test_of}
use Rattle.planner.specs.Sources.{chip_of, limits_of, plan_of}
use Rattle.planner.proofs.LiveJobs.{tests_more}
use Rattle.planner.proofs.job.tests_of.Goals as goal

pub loop-place-preserved : goal.loop-place-preserved
loop-place-preserved c =
    let source = c.args.parts.now.source.now in
    tests_more (test_of (chip_of source) (limits_of source) (plan_of source)) _ (map test_value c.push_live.new.tests.items) _ c.loop-place.place (chip_of source).modules (module_value c.module_at.result.now) c.in_ok-push_live.ensures c.module_at.ensures c.loop-place.invariant

pub returns : goal.returns
unfolding live_from
returns c =
    let none = drop_all c.loop-place.place (chip_of c.args.parts.now.source.now).modules (omega (arith, c.loop-place-test.false, c.module_count-place-end.ensures)) in
    sym (append-nil (map test_value c.loop-place.tests.items)) ∙ rw none at c.loop-place.invariant
