-- A chip, limits for it, and a plan that is accepted for both, placed.
use Rattle.soc_model.specs.declared.Soc.{Soc}
use Rattle.soc_model.specs.Chips.{SocValue, soc_value}
use Rattle.plan_model.specs.declared.Limits.{Limits}
use Rattle.plan_model.specs.declared.Plan.{Plan}
use Rattle.plan_model.specs.Faults.{IsFaultless}
use Rattle.plan_model.specs.Plans.{LimitsValue, PlanValue}
use Rattle.plan_model.specs.Views.{limits_value, plan_value}
use Rattle.live_tests.specs.declared.placed.Placed.{Placed}
use Rattle.live_tests.specs.declared.resolved.Resolved.{Resolved}
use Rattle.live_tests.specs.Placed.{IsPlaced}
use Rattle.live_tests.specs.Problems.{IsProblem}

pub record AcceptedValue : Type 0 where
  pub soc : SocValue
  pub limits : LimitsValue
  pub plan : PlanValue

-- a sound chip and sound limits, resolved, and a plan that has no fault for both, with what it says by place
pub record IsAccepted (soc : Soc) (limits : Limits) (resolved : Resolved) (plan : Plan) (placed : Placed) : Type 0 where
  pub problem : IsProblem soc limits resolved
  pub accepted : IsFaultless (soc_value soc) (limits_value limits) (plan_value plan)
  pub places : IsPlaced (soc_value soc) (plan_value plan) placed
