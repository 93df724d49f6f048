use Rattle.std.proofs.Common.{◌+◌, arith}
use Rattle.plan_model.specs.Proofs.{weights_value}
use Rattle.leaf_bounds.specs.LeafCosts.{LEAF_COST_MOST}
use Rattle.leaf_bounds.proofs.LeafAnswers.{few_all, few_modules, few_more, sum_more, sum_none}
use Rattle.leaf_bounds.proofs.leaf_sums.sum_of_least.Goals as goal

pub loop-place-init : goal.loop-place-init
loop-place-init c = record {
  sum = λ k of. sum_none c.args.basis.now k (weights_value c.args.weights.now);
  few = omega arith;
}

pub overflow_add-sum : goal.overflow_add-sum
overflow_add-sum c =
    let sum = few_more c.loop-place.place LEAF_COST_MOST c.loop-place.sum c.in-Some.cost c.loop-place.invariant.few c.in-Some.ensures.small in
    let all = few_all (c.loop-place.place + 1) 1000 LEAF_COST_MOST (c.loop-place.sum + c.in-Some.cost) (omega (arith, c.loop-place-test.true, c.requires.of.modules, few_modules c.requires.basis.sound)) sum in
    omega (arith, all)

pub loop-place-preserved : goal.loop-place-preserved
loop-place-preserved c = record {
  sum = λ k of. sum_more c.args.basis.now k (weights_value c.args.weights.now) c.loop-place.place c.loop-place.sum c.in-Some.cost (c.loop-place.invariant.sum k of) (c.in-Some.ensures.cost k of);
  few = few_more c.loop-place.place LEAF_COST_MOST c.loop-place.sum c.in-Some.cost c.loop-place.invariant.few c.in-Some.ensures.small;
}

pub returns-clause-small : goal.returns-clause-small
returns-clause-small c =
    few_all c.loop-place.place 1000 LEAF_COST_MOST c.loop-place.sum (omega (arith, c.loop-place.auto.place-end, c.loop-place-test.false, c.requires.of.modules, few_modules c.requires.basis.sound)) c.loop-place.invariant.few
