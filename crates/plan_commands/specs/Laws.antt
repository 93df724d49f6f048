-- The laws that what is answered of accepted plans rests on.
use Rattle.std.specs.Prelude.{◌≡◌, ℕ, Some}
use Rattle.soc_model.specs.Chips.{SocValue}
use Rattle.soc_model.specs.SoundChips.{IsSoundChip}
use Rattle.plan_model.specs.Plans.{LimitsValue, PlanValue}
use Rattle.plan_model.specs.Rules.{IsGood}
use Rattle.live_tests.specs.declared.placed.PlacedTest.{PlacedTest}
use Rattle.live_tests.specs.Placed.{placed_tests}
use Rattle.fail_locate.specs.Laws.{SpotsAreReads}
use Rattle.shift_program.specs.Laws.{RightAreFaultless, OneFault, TextsHaveOneAnswer}
use Rattle.report.specs.declared.holders.Hold.{Hold}
use Rattle.report.specs.Holders.{held}
use Rattle.report.specs.Laws.{IsHeldBy, IsPeak, IsShared, IsWhole}
use Rattle.report.specs.Peaks.{peak}

-- A text says at most one program; one that is right has no fault, and no other has two that show first.
pub record ProgramLaws : Type 0 where
  pub texts : TextsHaveOneAnswer
  pub faultless : RightAreFaultless
  pub one_fault : OneFault

-- In a report the power is the greatest of all cycles; on each bus of a good plan each cycle is busy or idle; and a test that held
-- another one kept it out, so that these lines go back to a test that nothing held.
pub record ReportLaws : Type 0 where
  pub peak_is : (load : ℕ → ℕ) (cycles : ℕ) → IsPeak load cycles (peak load cycles)
  pub shared : (soc : SocValue) (limits : LimitsValue) (plan : PlanValue) (bus : ℕ) → IsSoundChip soc → IsGood soc limits plan →
      IsShared (placed_tests soc plan) bus plan.cycles
  pub held_by : (soc : SocValue) (limits : LimitsValue) (plan : PlanValue) (load : ℕ → ℕ) (t u : PlacedTest) (kind : Hold) →
      held soc limits load (placed_tests soc plan) t ≡ Some (u, kind) → IsHeldBy soc limits load (placed_tests soc plan) t u kind
  pub whole : (soc : SocValue) (limits : LimitsValue) (plan : PlanValue) (load : ℕ → ℕ) →
      IsWhole soc limits load (placed_tests soc plan) plan.cycles

-- those of fails, of programs and of reports
pub record PlanLaws : Type 0 where
  pub spots : SpotsAreReads
  pub programs : ProgramLaws
  pub reports : ReportLaws
