use Rattle.std.proofs.Common.{arith}
use Rattle.resource_table.proofs.Restarts.{sent_one, sent_all}
use Rattle.resource_table.proofs.table.send_over.Goals as goal

pub loop-place-preserved : goal.loop-place-preserved
loop-place-preserved c =
    sent_one c.args.tests.now c.loop-place.tests c.args.buses.now c.args.lengths.now c.loop-place.place c.index-tests-place.result c.send_one_over.new.test
    (let lt = c.loop-place-test.true in let same = c.loop-place.auto.tests in omega arith) c.requires.buses c.requires.lengths c.loop-place.invariant c.send_one_over.ensures

pub returns : goal.returns
returns c =
    sent_all c.args.tests.now c.loop-place.tests c.args.buses.now c.args.lengths.now c.loop-place.place (let same = c.loop-place.auto.tests in let end = c.loop-place-test.false in omega arith) c.loop-place.auto.tests c.requires.buses c.requires.lengths c.loop-place.invariant
