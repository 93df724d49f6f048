use Rattle.std.proofs.Common.{◌++◌, take, arith}
use Rattle.soc_model.specs.Chips.{module_value}
use Rattle.fail_locate.specs.Wired.{placed_tests}
use Rattle.fail_locate.proofs.KeptTests.{next_test, all_tests, no_tests}
use Rattle.fail_locate.proofs.wired.push_module.Goals as goal
use Rattle.common_lemmas.proofs.Lists.{slice_at}

pub loop-at-init : goal.loop-at-init
loop-at-init c = λ done are. no_tests c.args.placed.now.soc c.args.placed.now.plan done c.args.tests.now.items are

pub push_test-requires-clause-test_there : goal.push_test-requires-clause-test_there
push_test-requires-clause-test_there c = (c.loop-at.at, slice_at c.args.module.now.tests.items c.loop-at.at c.index.result.now (omega (arith, c.loop-at-test.true, c.len-at-end.ensures, c.args.module.now.tests.ok.0)) c.index.ensures)

pub loop-at-preserved : goal.loop-at-preserved
loop-at-preserved c = λ done are.
    next_test c.args.placed.now.soc c.args.placed.now.plan c.args.place (module_value c.args.module.now) c.args.module.now.tests.items c.loop-at.at c.index.result.now done c.push_test.new.tests.items
    (slice_at c.args.module.now.tests.items c.loop-at.at c.index.result.now (omega (arith, c.loop-at-test.true, c.len-at-end.ensures, c.args.module.now.tests.ok.0)) c.index.ensures)
    (c.in_ok-push_test.ensures (done ++ placed_tests c.args.placed.now.plan c.args.place (module_value c.args.module.now) (take c.loop-at.at c.args.module.now.tests.items)) (c.loop-at.invariant done are))

pub returns : goal.returns
returns c = λ done are.
    all_tests c.args.placed.now.soc c.args.placed.now.plan c.args.place (module_value c.args.module.now) c.args.module.now.tests.items c.loop-at.at done c.loop-at.tests.items (omega (arith, c.loop-at-test.false, c.len-at-end.ensures, c.args.module.now.tests.ok.0)) (c.loop-at.invariant done are)
