use Rattle.planner.proofs.planning.plan.Goals as goal

pub returns-clause-planned : goal.returns-clause-planned
returns-clause-planned g c = rw (c.new-problem.ensures.chip, c.new-problem.ensures.limits) at c.plan_with.ensures.planned

pub returns-clause-right : goal.returns-clause-right
returns-clause-right g c = rw (c.new-problem.ensures.chip, c.new-problem.ensures.limits) at c.plan_with.ensures.right

pub returns-clause-bound : goal.returns-clause-bound
returns-clause-bound g c = rw (c.new-problem.ensures.chip, c.new-problem.ensures.limits) at c.plan_with.ensures.bound

pub returns-clause-elementary : goal.returns-clause-elementary
returns-clause-elementary g c = rw (c.new-problem.ensures.chip, c.new-problem.ensures.limits) at c.plan_with.ensures.elementary

pub returns-clause-only_plan : goal.returns-clause-only_plan
returns-clause-only_plan g c = rw (c.new-problem.ensures.chip, c.new-problem.ensures.limits) at c.plan_with.ensures.only_plan

pub returns-clause-only_buses : goal.returns-clause-only_buses
returns-clause-only_buses g c = rw (c.new-problem.ensures.chip, c.new-problem.ensures.limits) at c.plan_with.ensures.only_buses
