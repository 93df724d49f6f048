-- What is promised of a plan that is printed or accepted.
use Rattle.std.specs.Prelude.{ℕ, ◌≤◌, List, Option}
use Rattle.std.specs.FinMap.{get}
use Rattle.outside.specs.Held.{Files, Appended}
use Rattle.soc_model.specs.Chips.{SocValue}
use Rattle.plan_model.specs.Plans.{LimitsValue, PlanValue, BoundValue}
use Rattle.plan_model.specs.Runs.{Content}
use Rattle.plan_model.specs.Right.{IsRight}
use Rattle.plan_model.specs.Rules.{IsGood, IsBound}
use Rattle.plan_model.specs.Certificates.{IsAccepted}
use Rattle.soc_reader.specs.ChipForm.{SaysChip}
use Rattle.plan_text.specs.Answers.{SaysPlan}
use Rattle.commands.specs.declared.FileKind.TheVariants.{Soc, Limits, Plan}
use Rattle.commands.specs.Readings.{IsRead, SaysLimits}

-- Good plans run right, for every content, and the cycles of a certificate that is accepted are a bound.
pub record TrustLaws : Type 0 where
  pub right : (soc : SocValue) (limits : LimitsValue) (plan : PlanValue) (content : Content) → IsGood soc limits plan →
      IsRight soc limits plan content
  pub bound : (soc : SocValue) (limits : LimitsValue) (bound : BoundValue) → 1 ≤ limits.wires → IsAccepted soc limits bound →
      IsBound soc limits bound.cycles

-- a file's chip, limits for a chip, and a plan
abbrev pub IsChipIn : Files → (soc : List ℕ) → SocValue → Type 0
IsChipIn files soc chip = IsRead Soc SaysChip (get files soc) chip

abbrev pub AreLimitsIn : Files → (limits : List ℕ) → SocValue → LimitsValue → Type 0
AreLimitsIn files limits chip bounds = IsRead Limits (SaysLimits chip) (get files limits) bounds

abbrev pub IsPlanIn : Files → (plan : List ℕ) → PlanValue → Type 0
IsPlanIn files plan value = IsRead Plan SaysPlan (get files plan) value

-- a plan that the command makes itself
abbrev pub IsMade : PlanValue → Type 0
IsMade value = Unit {0}

-- What a plan is that is printed or accepted: it runs right for every content and ends in exactly the cycles that it states, no
-- good plan of its chip under its limits ends before its bound, and what is written is a text of it. Where the chip, the limits
-- and the plan come from, and which texts are the plan's, is said of each command.
pub record IsTrustworthy (IsChip : SocValue → Type 0) (AreLimits : SocValue → LimitsValue → Type 0) (IsPlan : PlanValue → Type 0)
    (Tells : SocValue → PlanValue → List ℕ → Type 0) (old new : Option (List ℕ)) : Type 0 where
  pub chip : SocValue
  pub bounds : LimitsValue
  pub value : PlanValue
  pub text : List ℕ
  pub chip_is : IsChip chip
  pub limits_are : AreLimits chip bounds
  pub plan_is : IsPlan value
  pub right : (content : Content) → IsRight chip bounds value content
  pub bound : IsBound chip bounds value.bound.cycles
  pub tells : Tells chip value text
  pub written : Appended old text new
