use Rattle.soc_model.specs.Chips.{soc_value}
use Rattle.plan_model.specs.Views.{limits_value, plan_value}
use Rattle.row_runner.proofs.calls.written_of.Goals as goal

pub write_vectors-requires-clause-good : goal.write_vectors-requires-clause-good
write_vectors-requires-clause-good c = c.good_without_limits.ensures.alone (soc_value c.args.soc.now) (limits_value c.args.limits.now) (plan_value c.args.plan.now) c.requires.accepted.0

pub write_vectors-requires-clause-narrow : goal.write_vectors-requires-clause-narrow
write_vectors-requires-clause-narrow c = c.good_without_limits.ensures.narrow (soc_value c.args.soc.now) (limits_value c.args.limits.now) (plan_value c.args.plan.now) c.requires.limits c.requires.accepted.0
