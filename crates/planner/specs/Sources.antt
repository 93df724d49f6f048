-- What the job of a plan is made from.
use Rattle.std.specs.Prelude.{[], map}
use Rattle.soc_model.specs.Chips.{SocValue, soc_value}
use Rattle.soc_model.specs.SoundChips.{IsSoundChip}
use Rattle.plan_model.specs.Plans.{PlanValue, LimitsValue}
use Rattle.plan_model.specs.Rules.{Keeps, Wrappers, Proper}
use Rattle.plan_model.specs.Views.{wrapper_value, bus_value, limits_value}
use Rattle.live_tests.specs.Index.{IsIndex}
use Rattle.live_tests.specs.Resolved.{IsResolved}
use Rattle.planner.specs.declared.job.JobSource.{JobSource}
use Rattle.planner.specs.declared.job.Parts.{Parts}
use Rattle.planner.specs.Jobs.{settled_parts}

abbrev pub chip_of : JobSource → SocValue
chip_of source = soc_value source.soc.now

abbrev pub limits_of : JobSource → LimitsValue
limits_of source = limits_value source.limits.now

-- its buses and wrappers, as those of a plan
abbrev pub plan_of : JobSource → PlanValue
plan_of source = settled_parts (map bus_value source.buses.now) (map wrapper_value source.wrappers.now)

-- a sound chip with proper wrappers, which is resolved, and where the bus and the wrappers of each module stand
pub record AreParts (parts : Parts) : Type 0 where
  pub sound : IsSoundChip (chip_of parts.source.now)
  pub wrapped : Keeps (chip_of parts.source.now) (limits_of parts.source.now) (plan_of parts.source.now) Wrappers
  pub proper : Keeps (chip_of parts.source.now) (limits_of parts.source.now) (plan_of parts.source.now) Proper
  pub places : IsIndex (plan_of parts.source.now) parts.buses.entries parts.wrappers.entries []
  pub resolved : IsResolved (chip_of parts.source.now) parts.source.now.limits.now parts.resolved.now
