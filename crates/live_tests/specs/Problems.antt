-- A chip under its limits: what plans, checks and bounds are asked of.
use Rattle.soc_model.specs.Chips.{SocValue, soc_value}
use Rattle.soc_model.specs.SoundChips.{IsSoundChip}
use Rattle.soc_model.specs.declared.Soc.{Soc}
use Rattle.plan_model.specs.declared.Limits.{Limits}
use Rattle.plan_model.specs.Plans.{LimitsValue}
use Rattle.plan_model.specs.SoundLimits.{IsSoundLimits}
use Rattle.plan_model.specs.Views.{limits_value}
use Rattle.live_tests.specs.declared.resolved.Resolved.{Resolved}
use Rattle.live_tests.specs.Resolved.{IsResolved}

-- what a problem says
pub record ProblemValue : Type 0 where
  pub soc : SocValue
  pub limits : LimitsValue

-- a sound chip and sound limits, resolved
pub record IsProblem (soc : Soc) (limits : Limits) (resolved : Resolved) : Type 0 where
  pub sound : IsSoundChip (soc_value soc)
  pub bounds : IsSoundLimits (soc_value soc) (limits_value limits)
  pub places : IsResolved (soc_value soc) limits resolved
