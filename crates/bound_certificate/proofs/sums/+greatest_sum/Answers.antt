use Rattle.std.proofs.Common.{◌≡◌, ◌∙◌, ◌+◌, ◌<◌, ℕ, List, length, get_or, take, Some, max, sym, ap, subst, arith, rules, slice_get, Contains}
use Rattle.std.proofs.lemmas.List.{length-map}
use Rattle.std.proofs.lemmas.List.Elements.{Contains-get_or}
use Rattle.std.proofs.lemmas.Option.{slice_get-get_or}
use Rattle.bound_certificate.specs.declared.nodes.PrecedenceNode.{PrecedenceNode}
use Rattle.bound_certificate.specs.declared.sums.Sum.{Sum}
use Rattle.bound_certificate.specs.declared.sums.Sum.TheVariants.{Unknown}
use Rattle.bound_certificate.specs.Best.{IsGreatestSum}
use Rattle.bound_certificate.specs.Nodes.{node_value, node_values}
use Rattle.bound_certificate.specs.Sums.{IsMost}
use Rattle.bound_certificate.proofs.GreatestSums.{sum_step}
use Rattle.bound_certificate.proofs.SumSteps.{falls, go_then, found, node_here, under_way, before_within, most_more, most_small, loop_ends}
use Rattle.bound_certificate.proofs.sums.+greatest_sum.Goals as goal

-- what was read at a place stands there
read_at : (sums : List Sum) (i : ℕ) (s : Sum) → i < length sums → s ≡ get_or sums i s → s ≡ Unknown → slice_get sums i ≡ Some Unknown
read_at sums i s within is unknown = slice_get-get_or sums i s within ∙ ap Some (sym is ∙ unknown)

pub greatest_sum-sum-requires : goal.greatest_sum-sum-requires
greatest_sum-sum-requires t c =
    let k = c.requires in
    let nodes = node_values c.args.nodes.now in
    let old = c.args.sums.now.items in
    let n = c.index-nodes-test.result in
    let p = get_or c.deref-earlier-items.result.now c.loop-earlier.earlier-index 0 in
    let at : slice_get nodes c.args.test ≡ Some (node_value n) = node_here c.args.nodes.now c.args.test n k.within c.index-nodes-test.is in
    let items : c.deref-earlier-items.result.now ≡ n.before.items = c.deref-earlier-items.ensures.value ∙ ap (λ (n : PrecedenceNode). n.before.items) (sym c.index-nodes-test.is) in
    let before : Contains n.before.items p = subst (λ (l : List ℕ). Contains l p) items (Contains-get_or c.deref-earlier-items.result.now c.loop-earlier.earlier-index 0 c.loop-earlier-test.true) in
    let test_within : c.args.test < length old = omega (arith, k.within, k.long) in
    let unknown = read_at old c.args.test c.index.result.now test_within c.index.ensures c.in-Unknown.is in
    let fewer = falls nodes old c.loop-earlier.sums.items c.args.test unknown c.loop-earlier.invariant.goes_on in
    let within = before_within k.under_way.graph.soc k.under_way.graph.limits nodes k.under_way.graph.are c.args.test p (node_value n) at before in (
      omega (arith, fewer, c.decreases),
      (
        omega (arith, within, length-map c.args.nodes.now node_value),
        (
          k.few,
          (
            search rules,
            under_way nodes old c.loop-earlier.sums.items c.args.test p (node_value n) test_within k.under_way c.loop-earlier.invariant.goes_on at before,
          ),
        ),
      ),
    )

pub loop-earlier-preserved : goal.loop-earlier-preserved
loop-earlier-preserved t c =
    let nodes = node_values c.args.nodes.now in
    let e = c.greatest_sum-sum.ensures in
    let i = c.loop-earlier.invariant in
    let items = c.deref-earlier-items.result.now in
    let most_is : c.max-most.result ≡ max c.loop-earlier.most c.greatest_sum-sum.result = search rules in
    record {
      goes_on = go_then nodes _ c.loop-earlier.sums.items c.greatest_sum-sum.new.sums.items i.goes_on e.goes_on;
      most = λ soc limits are right. subst (λ m. IsMost soc limits nodes (take (c.loop-earlier.earlier-index + 1) items) m) (sym most_is)
          (most_more soc limits nodes items c.loop-earlier.earlier-index c.loop-earlier.most c.greatest_sum-sum.result c.loop-earlier-test.true (i.most soc limits are right) (e.sum soc limits are (i.goes_on.right soc limits are right)));
    }

pub overflow_add-sum : goal.overflow_add-sum
overflow_add-sum t c =
    let k = c.requires in
    let nodes = node_values c.args.nodes.now in
    let u = k.under_way in
    let n = c.index-nodes-test.result in
    let at : slice_get nodes c.args.test ≡ Some (node_value n) = node_here c.args.nodes.now c.args.test n k.within c.index-nodes-test.is in
    let e = loop_ends c.args.nodes.now c.args.sums.now.items c.args.test n c.index-nodes-test-2.result c.deref-earlier-items.result.now c.loop-earlier.earlier-index c.loop-earlier.most c.from.result k.within (omega (arith, k.within, k.long)) c.index-nodes-test.is c.index-nodes-test-2.is c.deref-earlier-items.ensures.value c.from.ensures c.loop-earlier-test.false c.loop-earlier.invariant.most
    u.graph.soc u.graph.limits u.graph.are u.right (node_value n) at in
    let small = most_small u.graph.soc u.graph.limits nodes u.graph.are u.graph.acyclic (omega (arith, k.few, length-map c.args.nodes.now node_value)) c.args.test (node_value n) c.loop-earlier.most at e.0 in
    omega (arith, small, e.1)

pub returns-clause-goes_on : goal.returns-clause-goes_on
returns-clause-goes_on t c =
    let k = c.requires in
    let nodes = node_values c.args.nodes.now in
    found nodes c.args.sums.now.items c.loop-earlier.sums.items c.args.test (c.loop-earlier.most + c.from.result) (omega (arith, k.within, k.long)) c.loop-earlier.invariant.goes_on
    (λ soc limits are right n at.
    let e = loop_ends c.args.nodes.now c.args.sums.now.items c.args.test c.index-nodes-test.result c.index-nodes-test-2.result c.deref-earlier-items.result.now c.loop-earlier.earlier-index c.loop-earlier.most c.from.result k.within (omega (arith, k.within, k.long)) c.index-nodes-test.is c.index-nodes-test-2.is c.deref-earlier-items.ensures.value c.from.ensures c.loop-earlier-test.false c.loop-earlier.invariant.most
    soc limits are right n at in
    subst (λ time. IsGreatestSum soc limits n.id (c.loop-earlier.most + time)) (sym e.1) (sum_step soc limits nodes are c.args.test n c.loop-earlier.most at e.0))

pub returns-clause-sum : goal.returns-clause-sum
returns-clause-sum t c = λ soc limits are right n at.
    let k = c.requires in
    let nodes = node_values c.args.nodes.now in
    let e = loop_ends c.args.nodes.now c.args.sums.now.items c.args.test c.index-nodes-test.result c.index-nodes-test-2.result c.deref-earlier-items.result.now c.loop-earlier.earlier-index c.loop-earlier.most c.from.result k.within (omega (arith, k.within, k.long)) c.index-nodes-test.is c.index-nodes-test-2.is c.deref-earlier-items.ensures.value c.from.ensures c.loop-earlier-test.false c.loop-earlier.invariant.most
    soc limits are right n at in
    subst (λ time. IsGreatestSum soc limits n.id (c.loop-earlier.most + time)) (sym e.1) (sum_step soc limits nodes are c.args.test n c.loop-earlier.most at e.0)
