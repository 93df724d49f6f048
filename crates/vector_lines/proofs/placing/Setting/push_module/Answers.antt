use Rattle.std.proofs.Common.{◌++◌, take, arith}
use Rattle.soc_model.specs.Chips.{module_value}
use Rattle.vector_lines.specs.Placed.{planned_in}
use Rattle.vector_lines.proofs.PlacedTests.{next_test, all_tests, no_tests}
use Rattle.vector_lines.proofs.placing.Setting.push_module.Goals as goal
use Rattle.common_lemmas.proofs.Lists.{slice_at}

pub loop-at-init : goal.loop-at-init
loop-at-init g c = λ done are. no_tests are

pub push_test-requires-clause-test_there : goal.push_test-requires-clause-test_there
push_test-requires-clause-test_there g c = slice_at c.args.module.now.tests.items c.loop-at.at c.index.result.now (omega (arith, c.loop-at-test.true, c.len-at-end.ensures, c.args.module.now.tests.ok.0)) c.index.ensures

pub loop-at-preserved : goal.loop-at-preserved
loop-at-preserved g c = λ done are.
    next_test c.args.self.now.placed.now.plan c.args.place (module_value c.args.module.now) c.args.module.now.tests.items c.loop-at.at done
    (slice_at c.args.module.now.tests.items c.loop-at.at c.index.result.now (omega (arith, c.loop-at-test.true, c.len-at-end.ensures, c.args.module.now.tests.ok.0)) c.index.ensures)
    (c.in_ok-push_test.ensures (done ++ planned_in c.args.self.now.placed.now.plan c.args.place (module_value c.args.module.now) (take c.loop-at.at c.args.module.now.tests.items)) (c.loop-at.invariant done are))

pub returns : goal.returns
returns g c = λ done are.
    all_tests c.args.self.now.placed.now.plan c.args.place (module_value c.args.module.now) c.args.module.now.tests.items c.loop-at.at done (omega (arith, c.loop-at-test.false, c.len-at-end.ensures, c.args.module.now.tests.ok.0))
    (c.loop-at.invariant done are)
