-- What is promised of the plan that is written.
use Rattle.std.specs.Prelude.{ℕ, List, Option}
use Rattle.outside.specs.Held.{Files, Appended}
use Rattle.soc_model.specs.Chips.{SocValue}
use Rattle.plan_model.specs.Plans.{LimitsValue, PlanValue}
use Rattle.plan_model.specs.Runs.{Content}
use Rattle.plan_model.specs.Right.{IsRight}
use Rattle.plan_model.specs.Rules.{IsBound}
use Rattle.plan_text.specs.PlanLines.{plan_text}
use Rattle.plan_text.specs.Answers.{SaysPlan}
use Rattle.commands.specs.Trusted.{IsChipIn, AreLimitsIn, IsPlanIn}
use Rattle.plan_improver.specs.Improved.{IsImproved}

-- For the chip and the limits in the files, the plan that is written is improved from the one in its file; it runs right for
-- every content and ends in exactly the cycles that it states, and no good plan ends before its bound. What is written reads
-- back as that plan.
pub record Improves (soc limits plan : List ℕ) (tries : ℕ) (files : Files) (old new : Option (List ℕ)) : Type 0 where
  pub chip : SocValue
  pub bounds : LimitsValue
  pub given : PlanValue
  pub value : PlanValue
  pub chip_is : IsChipIn files soc chip
  pub limits_are : AreLimitsIn files limits chip bounds
  pub given_is : IsPlanIn files plan given
  pub improved : IsImproved chip bounds tries given value
  pub right : (content : Content) → IsRight chip bounds value content
  pub bound : IsBound chip bounds value.bound.cycles
  pub written : Appended old (plan_text value) new
  pub reads_back : SaysPlan (plan_text value) value
