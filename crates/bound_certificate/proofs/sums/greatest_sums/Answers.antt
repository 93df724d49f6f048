use Rattle.std.proofs.Common.{◌∙◌, ◌+◌, [], ◌∷◌, length, ap, arith, length-append}
use Rattle.std.proofs.lemmas.List.{length-map, length-replicate}
use Rattle.bound_certificate.specs.declared.sums.Sum.TheVariants.{Unknown}
use Rattle.bound_certificate.specs.Nodes.{node_value, node_values}
use Rattle.bound_certificate.proofs.SumSteps.{none_begun, none_found, none_right, starts, sums_more}
use Rattle.bound_certificate.proofs.sums.greatest_sums.Goals as goal

pub greatest_sum-sum-requires-clause-under_way : goal.greatest_sum-sum-requires-clause-under_way
greatest_sum-sum-requires-clause-under_way c =
    let k = c.requires in
    starts (node_values c.args.nodes.now) c.loop-test.known.items c.loop-test.test k (c.loop-test.invariant.right k.soc k.limits k.are) c.loop-test.invariant.none_begun

pub loop-test-preserved : goal.loop-test-preserved
loop-test-preserved c =
    let i = c.loop-test.invariant in
    let e = c.greatest_sum-sum.ensures in
    let pushed = c.in_ok-push.ensures.ok in
    record {
      long = e.goes_on.long ∙ i.long;
      none_begun = λ j at. i.none_begun j (e.goes_on.begun j at);
      right = λ soc limits are. e.goes_on.right soc limits are (i.right soc limits are);
      sums_long = ap length pushed ∙ length-append c.loop-test.sums.items (c.greatest_sum-sum.result ∷ []) ∙ ap (λ n. n + 1) i.sums_long;
      sums = λ soc limits are. sums_more soc limits (node_values c.args.nodes.now) c.loop-test.sums.items c.push.new.to.items c.loop-test.test c.greatest_sum-sum.result i.sums_long pushed (i.sums soc limits are) (e.sum soc limits are (i.right soc limits are));
    }

pub loop-test-init : goal.loop-test-init
loop-test-init c =
    let unknown = c.in_ok-known.ensures in
    record {
      long = ap length unknown ∙ length-replicate (length c.args.nodes.now) Unknown;
      none_begun = none_begun c.in_ok-known.known.items (length c.args.nodes.now) unknown;
      right = λ soc limits are. none_right soc limits (node_values c.args.nodes.now) c.in_ok-known.known.items (length c.args.nodes.now) unknown;
      sums_long = ap length c.new-sums.ensures.items;
      sums = λ soc limits are i s at. absurd (none_found c.new-sums.result.items i s c.new-sums.ensures.items at);
    }

pub returns : goal.returns
returns c = λ soc limits are. record {
  long = omega (arith, c.loop-test.invariant.sums_long, c.loop-test-test.false, c.loop-test.auto.test-end, length-map c.args.nodes.now node_value);
  right = c.loop-test.invariant.sums soc limits are;
}
