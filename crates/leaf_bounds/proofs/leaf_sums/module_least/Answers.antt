use Rattle.std.proofs.Common.{◌∙◌, sym}
use Rattle.plan_model.specs.Proofs.{weights_value}
use Rattle.leaf_bounds.proofs.LeafAnswers.{unwired, wired}
use Rattle.leaf_bounds.proofs.leaf_sums.module_least.Goals as goal

pub returns-then-not-is_wired-clause-cost : goal.returns-then-not-is_wired-clause-cost
returns-then-not-is_wired-clause-cost c = λ k of. unwired c.args.basis.now k (weights_value c.args.weights.now) c.args.place (sym c.is_wired.ensures ∙ cc)

pub returns-clause-cost : goal.returns-clause-cost
returns-clause-cost c = λ k of. wired c.args.basis.now k (weights_value c.args.weights.now) c.args.place c.least_cost.result (sym c.is_wired.ensures ∙ cc) (c.least_cost.ensures.least k of)
