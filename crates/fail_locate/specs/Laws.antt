-- What is read at a cycle on a wire is settled, and counting back finds it.
use Rattle.std.specs.Prelude.{◌≡◌, ◌↔◌, ℕ, None, Some}
use Rattle.soc_model.specs.Chips.{SocValue}
use Rattle.plan_model.specs.Plans.{LimitsValue, PlanValue}
use Rattle.plan_model.specs.Rules.{IsGood, IsGoodAlone}
use Rattle.plan_model.specs.Runs.{Content}
use Rattle.fail_locate.specs.declared.Spot.{Spot}
use Rattle.fail_locate.specs.SpotAt.{spot_at}
use Rattle.fail_locate.specs.Spots.{IsNoSpot, IsShown, IsSpot}

-- a good plan reads at most one response bit at a cycle on a wire
abbrev pub SpotsAreOne : Type 0
SpotsAreOne = (soc : SocValue) (plan : PlanValue) (cycle wire : ℕ) (a b : Spot) → IsGoodAlone soc plan → IsSpot soc plan cycle wire a →
    IsSpot soc plan cycle wire b → a ≡ b

-- What counting back finds at a cycle on a wire is what the run of the plan with a content reads there: a spot exactly where the
-- run shows that bit, and none exactly where no bit of a response is read.
pub record FindsReads (soc : SocValue) (plan : PlanValue) (content : Content) (cycle wire : ℕ) : Type 0 where
  pub found : (spot : Spot) → (spot_at soc plan cycle wire ≡ Some spot) ↔ IsShown soc plan content cycle wire spot
  pub none : (spot_at soc plan cycle wire ≡ None) ↔ IsNoSpot soc plan cycle wire

-- so it is in every good plan, for every content, at each cycle on each wire
abbrev pub SpotsAreReads : Type 0
SpotsAreReads = (soc : SocValue) (limits : LimitsValue) (plan : PlanValue) (content : Content) (cycle wire : ℕ) → IsGood soc limits plan →
    FindsReads soc plan content cycle wire
