use Rattle.std.proofs.Common.{map, ap}
use Rattle.soc_model.specs.Chips.{soc_value}
use Rattle.plan_model.specs.Views.{bus_value, wrapper_value, limits_value, plan_value}
use Rattle.planner.proofs.GoodParts.{parts_wrapped, parts_proper}
use Rattle.row_runner.proofs.searches.job_of_plan.Goals as goal

pub job_of-requires-clause-wrapped : goal.job_of-requires-clause-wrapped
job_of-requires-clause-wrapped c =
    parts_wrapped (soc_value c.args.soc.now) (limits_value c.args.limits.now) (plan_value c.args.plan.now) (map bus_value c.deref.result.now) (map wrapper_value c.deref-2.result.now) c.requires.accepted.0 (ap (map bus_value) c.deref.ensures.value) (ap (map wrapper_value) c.deref-2.ensures.value)

pub job_of-requires-clause-proper : goal.job_of-requires-clause-proper
job_of-requires-clause-proper c =
    parts_proper (soc_value c.args.soc.now) (limits_value c.args.limits.now) (plan_value c.args.plan.now) (map bus_value c.deref.result.now) (map wrapper_value c.deref-2.result.now) c.requires.accepted.0 (ap (map wrapper_value) c.deref-2.ensures.value)
