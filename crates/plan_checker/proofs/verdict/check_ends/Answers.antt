use Rattle.std.proofs.Common.{refl}
use Rattle.plan_model.specs.Views.{limits_value, plan_value}
use Rattle.plan_model.specs.Rules.{Precedences, Power, Cycles}
use Rattle.plan_checker.proofs.Stepping.{kept_more, fault_here, last_stage}
use Rattle.plan_checker.proofs.verdict.check_ends.Goals as goal

pub returns-in-Some-clause-verdict : goal.returns-in-Some-clause-verdict
returns-in-Some-clause-verdict c = λ soc placed kept. fault_here soc (limits_value c.args.limits.now) (plan_value c.args.plan.now) Precedences c.in-Some.fault kept (c.in-Some.ensures soc (plan_value c.args.plan.now) placed)

pub returns-in-Some-check_power-clause-verdict : goal.returns-in-Some-check_power-clause-verdict
returns-in-Some-check_power-clause-verdict c = λ soc placed kept.
    fault_here soc (limits_value c.args.limits.now) (plan_value c.args.plan.now) Power c.in-Some-check_power.fault
    (kept_more soc (limits_value c.args.limits.now) (plan_value c.args.plan.now) Precedences kept (c.in-None.ensures soc (plan_value c.args.plan.now) placed))
    (c.in-Some-check_power.ensures.stage soc (plan_value c.args.plan.now) placed)

pub returns-in-None-check_power-clause-verdict : goal.returns-in-None-check_power-clause-verdict
returns-in-None-check_power-clause-verdict c = λ soc placed kept. last_stage soc (limits_value c.args.limits.now) (plan_value c.args.plan.now) Cycles c.check_cycles.result
    (kept_more soc (limits_value c.args.limits.now) (plan_value c.args.plan.now) Power (kept_more soc (limits_value c.args.limits.now) (plan_value c.args.plan.now) Precedences kept (c.in-None.ensures soc (plan_value c.args.plan.now) placed)) (c.in-None-check_power.ensures.stage soc (plan_value c.args.plan.now) placed))
    (c.check_cycles.ensures soc (limits_value c.args.limits.now) (plan_value c.args.plan.now) placed refl)
