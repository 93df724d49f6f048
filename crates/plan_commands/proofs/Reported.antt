-- A plan that is reported on is the one of its files, is good and runs right.
use Rattle.std.proofs.Common.{ℕ, List, Option}
use Rattle.std.specs.FinMap.{get}
use Rattle.outside.specs.Held.{Files, Appended}
use Rattle.soc_model.specs.Chips.{SocValue}
use Rattle.soc_model.specs.SoundChips.{IsSoundChip}
use Rattle.soc_reader.proofs.ChipsSaid.{sound_chip}
use Rattle.plan_model.specs.Plans.{LimitsValue, PlanValue, planned, power_at}
use Rattle.plan_model.specs.Rules.{IsGood}
use Rattle.plan_text.specs.Answers.{SaysPlan}
use Rattle.report.specs.ReportText.{report_text}
use Rattle.commands.specs.declared.FileKind.TheVariants.{Plan}
use Rattle.commands.specs.declared.Status.TheVariants.{Done}
use Rattle.commands.specs.Readings.{SaysAccepted, RefusesPlan}
use Rattle.commands.specs.Procedures.{done_with, with_accepted}
use Rattle.commands.specs.Answers.{Answers}
use Rattle.commands.specs.Trusted.{TrustLaws}
use Rattle.commands.proofs.Trusted.{both_done, read_as_well, stage_done}
use Rattle.plan_commands.specs.Laws.{ReportLaws}
use Rattle.plan_commands.specs.Procedures.{report_procedure}
use Rattle.plan_commands.specs.Reports.{AreLinesRight, IsReported}

lines_right : ReportLaws → (chip : SocValue) (bounds : LimitsValue) (value : PlanValue) (load : ℕ → ℕ) → IsSoundChip chip → IsGood chip bounds value → AreLinesRight chip bounds value load
lines_right reports chip bounds value load sound good = record {
  power = reports.peak_is load value.cycles;
  shared = λ bus. reports.shared chip bounds value bus sound good;
  held_by = reports.held_by chip bounds value load;
  whole = reports.whole chip bounds value load;
}

pub reported : TrustLaws → ReportLaws → (files : Files) (soc limits plan : List ℕ) (text : List ℕ) (old new : Option (List ℕ)) → Answers (report_procedure soc limits plan) files Done text → Appended old text new → IsReported files soc limits plan old new
reported laws reports files soc limits plan text old new answer put =
    let b = both_done files soc limits text (λ chip bounds. with_accepted chip bounds plan (λ value. done_with (report_text chip bounds value))) answer in
    let c = stage_done Plan (SaysAccepted b.0 b.1) (RefusesPlan b.0 b.1) (λ value. Answers (done_with (report_text b.0 b.1 value)) files) (get files plan) text b.4 in
    record {
      chip = b.0;
      bounds = b.1;
      value = c.0;
      chip_is = b.2;
      limits_are = b.3;
      plan_is = read_as_well Plan (SaysAccepted b.0 b.1) SaysPlan (get files plan) c.0 (λ bytes says. says.0) c.1;
      good = c.1.says.1.0;
      right = λ content. laws.right b.0 b.1 c.0 content c.1.says.1.0;
      bound = laws.bound b.0 b.1 (c.0).bound b.3.says.sound.some_wire c.1.says.1.1;
      lines = lines_right reports b.0 b.1 c.0 (power_at b.1 (planned b.0 c.0)) (sound_chip b.2.bytes b.0 b.2.says) c.1.says.1.0;
      written = rw c.2.1 at put;
    }
