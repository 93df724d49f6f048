use Rattle.plan_model.specs.Proofs.{weights_value}
use Rattle.leaf_bounds.proofs.LeafAnswers.{some_bus, concluded}
use Rattle.leaf_bounds.proofs.leaf.weighed_leaf.Goals as goal

pub returns-in-Some : goal.returns-in-Some
returns-in-Some c = record {
  answer = λ k of.
      let sum = c.in-Some.ensures.cost k of in
      concluded c.args.basis.now k (weights_value c.args.weights.now) c.in-Some.modules c.conclusion.result sum
      (c.self_cost.ensures.cost (weights_value c.args.weights.now) c.requires.weighed) (c.worth_of_cycle-worth.ensures.worth k of)
      (some_bus c.args.basis.now k (weights_value c.args.weights.now) c.in-Some.modules sum) c.conclusion.ensures;
}
