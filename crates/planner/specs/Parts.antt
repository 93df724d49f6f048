-- The rules of good plans that buses and wrappers alone decide.
use Rattle.soc_model.specs.Chips.{SocValue}
use Rattle.plan_model.specs.Plans.{PlanValue, LimitsValue}
use Rattle.plan_model.specs.Rules.{Keeps, Widths, Known, Places, Wrappers, Proper}

pub record KeepsPartRules (soc : SocValue) (limits : LimitsValue) (plan : PlanValue) : Type 0 where
  pub widths : Keeps soc limits plan Widths
  pub known : Keeps soc limits plan Known
  pub places : Keeps soc limits plan Places
  pub wrappers : Keeps soc limits plan Wrappers
  pub proper : Keeps soc limits plan Proper
