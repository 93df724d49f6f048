-- A good plan of a sound chip, placed.
use Rattle.std.specs.Prelude.{◌≡◌, List}
use Rattle.soc_model.specs.declared.TestId.{TestId}
use Rattle.soc_model.specs.Chips.{SocValue}
use Rattle.soc_model.specs.SoundChips.{IsSoundChip}
use Rattle.plan_model.specs.Plans.{PlanValue}
use Rattle.plan_model.specs.Rules.{IsGoodAlone, live_ids}
use Rattle.live_tests.specs.declared.placed.Placed.{Placed}
use Rattle.live_tests.specs.Placed.{IsPlaced}

-- what a placed plan says
pub record PlacedPlanValue : Type 0 where
  pub soc : SocValue
  pub plan : PlanValue

-- a sound chip, a plan that is good but for power and precedences, the chip's live tests, and what the plan says of them
pub record IsPlacedPlan (soc : SocValue) (plan : PlanValue) (ids : List TestId) (placed : Placed) : Type 0 where
  pub sound : IsSoundChip soc
  pub good : IsGoodAlone soc plan
  pub names : ids ≡ live_ids soc
  pub places : IsPlaced soc plan placed
