use Rattle.soc_model.specs.Chips.{soc_value}
use Rattle.plan_model.specs.Views.{limits_value, plan_value}
use Rattle.plan_model.specs.Rules.{Wrappers, Proper, Starts}
use Rattle.plan_checker.proofs.Stepping.{kept_more, fault_here, last_stage}
use Rattle.plan_checker.proofs.verdict.check_tests.Goals as goal

pub returns-in-Some-clause-verdict : goal.returns-in-Some-clause-verdict
returns-in-Some-clause-verdict c = fault_here (soc_value c.args.soc.now) (limits_value c.args.limits.now) (plan_value c.args.plan.now) Wrappers c.in-Some.fault c.requires.kept (c.in-Some.ensures.stage (limits_value c.args.limits.now))

pub returns-in-Some-check_cells-clause-verdict : goal.returns-in-Some-check_cells-clause-verdict
returns-in-Some-check_cells-clause-verdict c = fault_here (soc_value c.args.soc.now) (limits_value c.args.limits.now) (plan_value c.args.plan.now) Proper c.in-Some-check_cells.fault (kept_more (soc_value c.args.soc.now) (limits_value c.args.limits.now) (plan_value c.args.plan.now) Wrappers c.requires.kept (c.in-None.ensures.stage (limits_value c.args.limits.now))) (c.in-Some-check_cells.ensures (limits_value c.args.limits.now))

pub returns-in-None-check_cells-clause-verdict : goal.returns-in-None-check_cells-clause-verdict
returns-in-None-check_cells-clause-verdict c = last_stage (soc_value c.args.soc.now) (limits_value c.args.limits.now) (plan_value c.args.plan.now) Starts c.check_starts.result (kept_more (soc_value c.args.soc.now) (limits_value c.args.limits.now) (plan_value c.args.plan.now) Proper (kept_more (soc_value c.args.soc.now) (limits_value c.args.limits.now) (plan_value c.args.plan.now) Wrappers c.requires.kept (c.in-None.ensures.stage (limits_value c.args.limits.now))) (c.in-None-check_cells.ensures (limits_value c.args.limits.now))) (c.check_starts.ensures.stage (limits_value c.args.limits.now))
