use Rattle.soc_model.specs.Chips.{soc_value}
use Rattle.plan_model.specs.Views.{limits_value, plan_value}
use Rattle.row_runner.proofs.calls.chart_of.Goals as goal

pub print_chart-requires-clause-good : goal.print_chart-requires-clause-good
print_chart-requires-clause-good c = c.good_without_limits.ensures.alone (soc_value c.args.soc.now) (limits_value c.args.limits.now) (plan_value c.args.plan.now) c.requires.accepted.0
