-- What `report` promises of the plan that it reports on.
use Rattle.std.specs.Prelude.{◌≡◌, ℕ, List, Option, Some}
use Rattle.outside.specs.Held.{Files, Appended}
use Rattle.soc_model.specs.Chips.{SocValue}
use Rattle.plan_model.specs.Plans.{LimitsValue, PlanValue, planned, power_at}
use Rattle.plan_model.specs.Runs.{Content}
use Rattle.plan_model.specs.Right.{IsRight}
use Rattle.plan_model.specs.Rules.{IsBound, IsGood}
use Rattle.live_tests.specs.declared.placed.PlacedTest.{PlacedTest}
use Rattle.live_tests.specs.Placed.{placed_tests}
use Rattle.report.specs.declared.holders.Hold.{Hold}
use Rattle.report.specs.Holders.{held}
use Rattle.report.specs.Laws.{IsHeldBy, IsPeak, IsShared, IsWhole}
use Rattle.report.specs.Peaks.{peak}
use Rattle.report.specs.ReportText.{report_text}
use Rattle.commands.specs.Trusted.{IsChipIn, AreLimitsIn, IsPlanIn}

-- What holds of the lines, where the tests draw together what `load` says: the power is the greatest, at its first cycle; on each bus
-- each cycle is busy or idle, and it is busy as long as its tests take together; a test that held another one ended as that started,
-- kept it out for its reason, and started earlier; so these lines go back to a test that nothing held.
pub record AreLinesRight (chip : SocValue) (bounds : LimitsValue) (value : PlanValue) (load : ℕ → ℕ) : Type 0 where
  pub power : IsPeak load value.cycles (peak load value.cycles)
  pub shared : (bus : ℕ) → IsShared (placed_tests chip value) bus value.cycles
  pub held_by : (t u : PlacedTest) (kind : Hold) → held chip bounds load (placed_tests chip value) t ≡ Some (u, kind) →
      IsHeldBy chip bounds load (placed_tests chip value) t u kind
  pub whole : IsWhole chip bounds load (placed_tests chip value) value.cycles

-- What a plan is of which is reported: it is good, it runs right for every content, and no good plan of its chip under its limits
-- ends before its bound. The report is written, and its lines are right of what the tests draw.
pub record IsReported (files : Files) (soc limits plan : List ℕ) (old new : Option (List ℕ)) : Type 0 where
  pub chip : SocValue
  pub bounds : LimitsValue
  pub value : PlanValue
  pub chip_is : IsChipIn files soc chip
  pub limits_are : AreLimitsIn files limits chip bounds
  pub plan_is : IsPlanIn files plan value
  pub good : IsGood chip bounds value
  pub right : (content : Content) → IsRight chip bounds value content
  pub bound : IsBound chip bounds value.bound.cycles
  pub lines : AreLinesRight chip bounds value (power_at bounds (planned chip value))
  pub written : Appended old (report_text chip bounds value) new
