use Rattle.std.proofs.Common.{◌<◌, ◌∙◌, ap, length, get_or, subst}
use Rattle.std.proofs.lemmas.List.Elements.{All-get_or}
use Rattle.std.proofs.lemmas.List.{length-set}
use Rattle.limits_text.specs.Orders.{IsKept}
use Rattle.limits_text.proofs.Taking.{released_some, released_more, goes_then}
use Rattle.limits_text.proofs.graph.release_tests.Goals as goal

pub release_test-requires-clause-held : goal.release_test-requires-clause-held
release_test-requires-clause-held c =
    let small : get_or c.args.tests.now c.loop-test.test-index 0 < length c.args.counts.now.items = All-get_or (λ j. j < length c.args.counts.now.items) c.args.tests.now c.loop-test.test-index 0 c.loop-test-test.true c.requires.within in
    released_some c.args.counts.now.items c.loop-test.counts.items c.args.tests.now c.loop-test.test-index c.loop-test.invariant.counts c.loop-test-test.true small c.requires.held

pub loop-test-preserved : goal.loop-test-preserved
loop-test-preserved c =
    let i = c.loop-test.invariant in
    let small : get_or c.args.tests.now c.loop-test.test-index 0 < length c.args.counts.now.items = All-get_or (λ j. j < length c.args.counts.now.items) c.args.tests.now c.loop-test.test-index 0 c.loop-test-test.true c.requires.within in
    record {
      long = ap length c.in_ok-release_test.ensures.counts ∙ length-set c.loop-test.counts.items _ _ ∙ i.long;
      kept = subst (λ n. IsKept c.release_test.new.counts.items n c.release_test.new.order.items) i.long c.in_ok-release_test.ensures.kept;
      goes_on = goes_then c.args.order.now.items c.loop-test.order.items c.release_test.new.order.items i.goes_on c.in_ok-release_test.ensures.goes_on;
      counts = released_more c.args.counts.now.items c.loop-test.counts.items c.release_test.new.counts.items c.args.tests.now c.loop-test.test-index i.counts i.long c.loop-test-test.true small c.requires.held c.in_ok-release_test.ensures.counts;
    }
