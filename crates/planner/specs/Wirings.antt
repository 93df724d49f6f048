-- The buses of a plan with their wrappers, and what a schedule of them keeps.
use Rattle.std.specs.Prelude.{◌≡◌, ℕ, ◌≤◌, ◌^◌, List, map}
use Rattle.std.specs.List.{All}
use Rattle.soc_model.specs.declared.TestId.{TestId}
use Rattle.soc_model.specs.Chips.{SocValue}
use Rattle.plan_model.specs.Plans.{BusValue, BoundValue, PlanValue, LimitsValue}
use Rattle.plan_model.specs.Views.{wrapper_value, bus_value}
use Rattle.planner.specs.declared.wiring.Wiring.{Wiring}
use Rattle.planner.specs.declared.schedule.Schedule.{Schedule}
use Rattle.planner.specs.Parts.{KeepsPartRules}
use Rattle.planner.specs.Buses.{table_of, AreSettledBuses}
use Rattle.planner.specs.Wrapping.{AreTableWrappers}
use Rattle.planner.specs.Schedules.{IsFoundSchedule, KeepsTimes}

-- the plan of a wiring, a schedule and a bound
abbrev pub plan_of : Wiring → Schedule → BoundValue → PlanValue
plan_of wiring schedule bound = record {
  buses = map bus_value wiring.buses.items;
  wrappers = map wrapper_value wiring.wrappers.items;
  starts = schedule.starts.items;
  cycles = schedule.cycles;
  bound = bound;
}

-- the buses of the settled start, with the wrappers of the width table: each plan of them keeps the rules for both
pub record IsWiring (soc : SocValue) (limits : LimitsValue) (wiring : Wiring) : Type 0 where
  pub settled : AreSettledBuses (table_of soc limits) (map bus_value wiring.buses.items)
  pub only : (buses : List BusValue) → AreSettledBuses (table_of soc limits) buses → buses ≡ map bus_value wiring.buses.items
  pub wrapped : AreTableWrappers soc (map bus_value wiring.buses.items) (map wrapper_value wiring.wrappers.items)
  pub rules : (plan : PlanValue) → plan.buses ≡ map bus_value wiring.buses.items → plan.wrappers ≡ map wrapper_value wiring.wrappers.items →
      KeepsPartRules soc limits plan

-- a schedule of a wiring that a search finds, whatever the bound will be
pub record IsScheduled (soc : SocValue) (limits : LimitsValue) (wiring : Wiring) (schedule : Schedule) : Type 0 where
  pub found : (bound : BoundValue) → IsFoundSchedule soc limits (plan_of wiring schedule bound)
  pub keeps : (bound : BoundValue) → KeepsTimes soc limits (plan_of wiring schedule bound) schedule.cycles
  pub early : All (λ (start : TestId × ℕ). start.1 ≤ 10 ^ 18) schedule.starts.items
  pub short : schedule.cycles ≤ 10 ^ 18
