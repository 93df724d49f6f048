use Rattle.soc_model.specs.declared.TestId.{TestId}
use Rattle.live_tests.proofs.Indexing.{pairs_more}
use Rattle.live_tests.proofs.pairs_of.Goals as goal

pub loop-first-preserved : goal.loop-first-preserved
loop-first-preserved c =
    let d : TestId = record { «module» = 0; test = 0 } in
    pairs_more c.args.tests.now c.args.before.now c.loop-first.first-index (d, d) c.place.result c.place-in-loop-first.result c.loop-first.pairs.items c.push_both.new.pairs.items c.loop-first.invariant c.loop-first-test.true c.place.ensures c.place-in-loop-first.ensures c.in_ok-push_both.ensures
