-- The rules of good plans don't look at the bound.
use Rattle.std.proofs.Common.{refl}
use Rattle.soc_model.specs.Chips.{SocValue}
use Rattle.plan_model.specs.Plans.{LimitsValue, BoundValue, PlanValue, planned, planned_test}
use Rattle.plan_model.specs.Rules.{Rule, Widths, Known, Places, Wrappers, Proper, Starts, Wires, Busy, Parents, Precedences, Power, Cycles, Keeps, IsGood}
use Rattle.planner.proofs.GoodParts.{fitting_as}

-- a plan with another bound
abbrev pub bounded : PlanValue → BoundValue → PlanValue
bounded plan bound = record plan { bound = bound }

keeps_bounded : (soc : SocValue) (limits : LimitsValue) (plan : PlanValue) (bound : BoundValue) (r : Rule) → Keeps soc limits plan r → Keeps soc limits (bounded plan bound) r
unfolding planned planned_test
keeps_bounded soc limits plan bound Widths keeps = keeps
keeps_bounded soc limits plan bound Known keeps = keeps
keeps_bounded soc limits plan bound Places keeps = keeps
keeps_bounded soc limits plan bound Wrappers keeps = (fitting_as soc plan (bounded plan bound) plan.wrappers refl keeps.0, keeps.1)
keeps_bounded soc limits plan bound Proper keeps = keeps
keeps_bounded soc limits plan bound Starts keeps = keeps
keeps_bounded soc limits plan bound Wires keeps = keeps
keeps_bounded soc limits plan bound Busy keeps = keeps
keeps_bounded soc limits plan bound Parents keeps = keeps
keeps_bounded soc limits plan bound Precedences keeps = keeps
keeps_bounded soc limits plan bound Power keeps = keeps
keeps_bounded soc limits plan bound Cycles keeps = keeps

pub good_bounded : (soc : SocValue) (limits : LimitsValue) (plan : PlanValue) (bound : BoundValue) → IsGood soc limits plan → IsGood soc limits (bounded plan bound)
good_bounded soc limits plan bound good r = keeps_bounded soc limits plan bound r (good r)
