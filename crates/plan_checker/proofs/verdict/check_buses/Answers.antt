use Rattle.std.proofs.Common.{map, ap, refl}
use Rattle.soc_model.specs.Chips.{soc_value}
use Rattle.plan_model.specs.Views.{limits_value, plan_value, bus_value}
use Rattle.plan_model.specs.Rules.{Widths, Known, Places}
use Rattle.plan_checker.proofs.Stepping.{kept_none, kept_more, fault_here, last_stage}
use Rattle.plan_checker.proofs.verdict.check_buses.Goals as goal

pub check_places-requires-clause-known : goal.check_places-requires-clause-known
check_places-requires-clause-known c = c.in-None-check_known.ensures (limits_value c.args.limits.now)

pub returns-in-Some-clause-verdict : goal.returns-in-Some-clause-verdict
returns-in-Some-clause-verdict c = fault_here (soc_value c.args.soc.now) (limits_value c.args.limits.now) (plan_value c.args.plan.now) Widths c.in-Some.fault (kept_none (soc_value c.args.soc.now) (limits_value c.args.limits.now) (plan_value c.args.plan.now))
    (c.in-Some.ensures (soc_value c.args.soc.now) (limits_value c.args.limits.now) (plan_value c.args.plan.now) (ap (map bus_value) c.deref.ensures.value) refl)

pub returns-in-Some-check_known-clause-verdict : goal.returns-in-Some-check_known-clause-verdict
returns-in-Some-check_known-clause-verdict c = fault_here (soc_value c.args.soc.now) (limits_value c.args.limits.now) (plan_value c.args.plan.now) Known c.in-Some-check_known.fault
    (kept_more (soc_value c.args.soc.now) (limits_value c.args.limits.now) (plan_value c.args.plan.now) Widths (kept_none (soc_value c.args.soc.now) (limits_value c.args.limits.now) (plan_value c.args.plan.now)) (c.in-None.ensures (soc_value c.args.soc.now) (limits_value c.args.limits.now) (plan_value c.args.plan.now) (ap (map bus_value) c.deref.ensures.value) refl))
    (c.in-Some-check_known.ensures (limits_value c.args.limits.now))

pub returns-in-None-check_known-clause-verdict : goal.returns-in-None-check_known-clause-verdict
returns-in-None-check_known-clause-verdict c = last_stage (soc_value c.args.soc.now) (limits_value c.args.limits.now) (plan_value c.args.plan.now) Places c.check_places.result
    (kept_more (soc_value c.args.soc.now) (limits_value c.args.limits.now) (plan_value c.args.plan.now) Known
    (kept_more (soc_value c.args.soc.now) (limits_value c.args.limits.now) (plan_value c.args.plan.now) Widths (kept_none (soc_value c.args.soc.now) (limits_value c.args.limits.now) (plan_value c.args.plan.now)) (c.in-None.ensures (soc_value c.args.soc.now) (limits_value c.args.limits.now) (plan_value c.args.plan.now) (ap (map bus_value) c.deref.ensures.value) refl))
    (c.in-None-check_known.ensures (limits_value c.args.limits.now)))
    (c.check_places.ensures.stage (limits_value c.args.limits.now))
