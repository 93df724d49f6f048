use Rattle.std.proofs.Common.{◌≡◌, ◌≤◌, length, arith, rules}
use Rattle.std.proofs.lemmas.List.{length-map}
use Rattle.bound_certificate.specs.Nodes.{node_value, node_values}
use Rattle.bound_certificate.proofs.SumSteps.{node_here}
use Rattle.bound_certificate.proofs.FirstBest.{below_skips, below_more, below_all}
use Rattle.bound_certificate.proofs.chains.last_test.Goals as goal

pub loop-place-preserved-then-is_empty : goal.loop-place-preserved-then-is_empty
loop-place-preserved-then-is_empty c =
    let n = c.index-nodes-place.result in
    let none : length n.before.items ≡ 0 = search rules in
    record {
      best = below_skips c.args.sums.now (node_values c.args.nodes.now) c.loop-place.place (node_value n) c.loop-place.best (node_here c.args.nodes.now c.loop-place.place n c.loop-place-test.true c.index-nodes-place.is) none c.loop-place.invariant.best;
      within = c.loop-place.invariant.within;
    }

pub loop-place-preserved : goal.loop-place-preserved
loop-place-preserved c =
    let n = c.index-nodes-place.result in
    let some : 1 ≤ length n.before.items = search rules in
    record {
      best = below_more c.args.sums.now (node_values c.args.nodes.now) c.loop-place.place (node_value n) c.loop-place.best c.better-best.result (node_here c.args.nodes.now c.loop-place.place n c.loop-place-test.true c.index-nodes-place.is) some c.loop-place.invariant.best c.better-best.ensures.better;
      within = c.better-best.ensures.within;
    }

pub returns-clause-best : goal.returns-clause-best
returns-clause-best c = below_all c.args.sums.now (node_values c.args.nodes.now) c.loop-place.place c.loop-place.best (omega (arith, c.loop-place-test.false, length-map c.args.nodes.now node_value)) c.loop-place.invariant.best
