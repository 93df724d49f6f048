use Rattle.std.proofs.Common.{◌∙◌, map, length, ap}
use Rattle.std.proofs.lemmas.List.{length-map}
use Rattle.soc_model.specs.Chips.{live_tests}
use Rattle.plan_model.specs.Views.{bus_value, wrapper_value, plan_value}
use Rattle.resource_table.specs.Jobs.{JobValue}
use Rattle.planner.specs.Jobs.{settled_parts, test_of}
use Rattle.planner.proofs.GoodParts.{parts_wrapped, parts_proper}
use Rattle.plan_improver.proofs.improving.job_of_plan.Goals as goal

pub job_with-requires-clause-wrapped : goal.job_with-requires-clause-wrapped
job_with-requires-clause-wrapped c =
    parts_wrapped c.args.problem.now.soc c.args.problem.now.limits (plan_value c.args.given.now) (map bus_value c.deref.result.now) (map wrapper_value c.deref-2.result.now) c.requires.given (ap (map bus_value) c.deref.ensures.value) (ap (map wrapper_value) c.deref-2.ensures.value)

pub job_with-requires-clause-proper : goal.job_with-requires-clause-proper
job_with-requires-clause-proper c =
    parts_proper c.args.problem.now.soc c.args.problem.now.limits (plan_value c.args.given.now) (map bus_value c.deref.result.now) (map wrapper_value c.deref-2.result.now) c.requires.given (ap (map wrapper_value) c.deref-2.ensures.value)

pub returns-clause-tests : goal.returns-clause-tests
returns-clause-tests c =
    ap (λ (j : JobValue). length j.tests) c.in_ok-job.ensures.job
    ∙ length-map (live_tests c.args.problem.now.soc) (test_of c.args.problem.now.soc c.args.problem.now.limits (settled_parts (map bus_value c.deref.result.now) (map wrapper_value c.deref-2.result.now)))
