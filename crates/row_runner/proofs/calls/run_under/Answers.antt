use Rattle.soc_model.specs.Chips.{soc_value}
use Rattle.plan_model.specs.Views.{limits_value, plan_value}
use Rattle.row_runner.proofs.calls.run_under.Goals as goal

pub run_of_chip-requires-clause-good : goal.run_of_chip-requires-clause-good
run_of_chip-requires-clause-good c = c.good_without_limits.ensures.alone (soc_value c.args.soc.now) (limits_value c.args.limits.now) (plan_value c.args.plan.now) c.requires.accepted.0

pub run_of_chip-requires-clause-narrow : goal.run_of_chip-requires-clause-narrow
run_of_chip-requires-clause-narrow c = c.good_without_limits.ensures.narrow (soc_value c.args.soc.now) (limits_value c.args.limits.now) (plan_value c.args.plan.now) c.requires.limits c.requires.accepted.0
