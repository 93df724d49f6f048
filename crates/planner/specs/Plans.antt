-- A plan of the planner.
use Rattle.std.specs.Prelude.{◌≡◌, ℕ, ◌≤◌, List}
use Rattle.soc_model.specs.Chips.{SocValue}
use Rattle.plan_model.specs.Plans.{BusValue, PlanValue, LimitsValue}
use Rattle.plan_model.specs.Rules.{IsGood, IsBound}
use Rattle.plan_model.specs.Certificates.{IsAccepted, IsElementary}
use Rattle.plan_model.specs.Runs.{Content}
use Rattle.plan_model.specs.Right.{IsRight}
use Rattle.bound_certificate.specs.Best.{IsBestBound}
use Rattle.plan_text.specs.Grammar.{IsInRange}
use Rattle.schedule_search.specs.Walks.{HasMoreOpen}
use Rattle.planner.specs.Buses.{table_of, AreSettledBuses}
use Rattle.planner.specs.Jobs.{job_of}
use Rattle.planner.specs.Wrapping.{AreTableWrappers}
use Rattle.planner.specs.Schedules.{IsFoundSchedule}

-- A good plan with an accepted bound: the buses of the settled start, the wrappers of the width table, the list schedule
-- of the order that the search finds, and the best bound at its cycles. It can be printed as it is.
pub record IsPlanned (soc : SocValue) (limits : LimitsValue) (plan : PlanValue) : Type 0 where
  pub good : IsGood soc limits plan
  pub accepted : IsAccepted soc limits plan.bound
  pub buses : AreSettledBuses (table_of soc limits) plan.buses
  pub wrappers : AreTableWrappers soc plan.buses plan.wrappers
  pub schedule : IsFoundSchedule soc limits plan
  pub best : IsBestBound soc limits plan.cycles plan.bound
  -- every number is one of a plan's text, and no start is after the greatest that it may give
  pub in_range : IsInRange plan

-- What is promised of a plan that is answered: it runs right, no good plan takes less than its bound, and where the budget is
-- enough for all open entries it is the only one of the planner; its buses are so always.
pub record IsAnswer (soc : SocValue) (limits : LimitsValue) (plan : PlanValue) : Type 0 where
  pub planned : IsPlanned soc limits plan
  pub right : (content : Content) → IsRight soc limits plan content
  pub bound : IsBound soc limits plan.bound.cycles
  pub elementary : (n : ℕ) → IsElementary soc limits n → n ≤ plan.bound.cycles
  pub only_plan : (HasMoreOpen (job_of soc limits plan) limits.budget → ⊥) → (other : PlanValue) → IsPlanned soc limits other → other ≡ plan
  pub only_buses : (buses : List BusValue) → AreSettledBuses (table_of soc limits) buses → buses ≡ plan.buses
