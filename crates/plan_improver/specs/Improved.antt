-- What a plan is that comes from another one.
use Rattle.std.specs.Prelude.{◌≡◌, ℕ, ◌<◌, ◌≤◌}
use Rattle.soc_model.specs.Chips.{SocValue}
use Rattle.plan_model.specs.Plans.{LimitsValue, BoundValue, PlanValue}
use Rattle.plan_model.specs.Rules.{IsGood}
use Rattle.plan_model.specs.Certificates.{IsAccepted}
use Rattle.bound_certificate.specs.Best.{IsBestBound}
use Rattle.plan_text.specs.Grammar.{AreSmallStarts, IsInRange}

-- the greater of a given bound and of the best one at `cycles` cycles; of equal ones the given one
pub record IsGreaterBound (soc : SocValue) (limits : LimitsValue) (cycles : ℕ) (given bound : BoundValue) : Type 0 where
  pub best : BoundValue
  pub is_best : IsBestBound soc limits cycles best
  pub kept : best.cycles ≤ given.cycles → bound ≡ given
  pub raised : given.cycles < best.cycles → bound ≡ best

-- A good plan, but for its bound: that is the greater of a given one and of the best one at its cycles.
pub record IsRaised (soc : SocValue) (limits : LimitsValue) (plan : PlanValue) (given : BoundValue) (new : PlanValue) : Type 0 where
  pub good : IsGood soc limits new
  pub plan_is : new ≡ record plan { bound = new.bound }
  pub greater : IsGreaterBound soc limits plan.cycles given new.bound
  pub accepted : IsAccepted soc limits new.bound
  pub at_least : given.cycles ≤ new.bound.cycles

-- A good plan with an accepted bound, the greater one at its cycles, of no more cycles than the given plan has. It is the
-- given plan, but for its bound, where it has as many cycles, and where nothing was tried.
pub record IsImproved (soc : SocValue) (limits : LimitsValue) (tries : ℕ) (given plan : PlanValue) : Type 0 where
  pub good : IsGood soc limits plan
  pub accepted : IsAccepted soc limits plan.bound
  pub bound : IsGreaterBound soc limits plan.cycles given.bound plan.bound
  pub at_least : given.bound.cycles ≤ plan.bound.cycles
  pub at_most : plan.cycles ≤ given.cycles
  pub same : plan.cycles ≡ given.cycles → plan ≡ record given { bound = plan.bound }
  pub untried : tries ≡ 0 → plan ≡ record given { bound = plan.bound }
  -- every number is in the range of a plan's text, where the given plan's starts are
  pub in_range : AreSmallStarts given.starts → IsInRange plan
