use Rattle.plan_model.specs.Views.{plan_value}
use Rattle.row_runner.proofs.plans.best_bound_of.Goals as goal

pub best_bound-requires-clause-good : goal.best_bound-requires-clause-good
best_bound-requires-clause-good c = λ n bound. bound (plan_value c.args.plan.now) c.requires.accepted.0
