use Rattle.std.proofs.Common.{refl}
use Rattle.plan_model.specs.Plans.{planned}
use Rattle.plan_model.specs.Views.{limits_value}
use Rattle.plan_checker.proofs.Profiles.{none_over, excess_first}
use Rattle.plan_checker.proofs.power.check_power.Goals as goal

pub returns-in-None-first_over-clause-stage : goal.returns-in-None-first_over-clause-stage
returns-in-None-first_over-clause-stage c = λ soc plan placed cycle.
    rw c.in-Some.is (none_over (limits_value c.args.limits.now) (planned soc plan) c.in-Some.most (rw placed at c.in-None-first_over.ensures.first) cycle)

pub returns-in-Some-first_over-clause-stage : goal.returns-in-Some-first_over-clause-stage
returns-in-Some-first_over-clause-stage c = λ soc plan placed.
    (excess_first (limits_value c.args.limits.now) (planned soc plan) c.in-Some.most c.in-Some-first_over.found c.in-Some.is (rw placed at c.in-Some-first_over.ensures.first), refl)
