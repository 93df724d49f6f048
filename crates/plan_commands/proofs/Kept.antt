-- What is kept of each command over plans: its steps are a command's, the files fix at most one answer, and what it promises holds.
use Rattle.std.proofs.Common.{◌≡◌, ℕ, ◌≤◌, List, Option, true, false, refl, arith}
use Rattle.std.specs.FinMap.{get}
use Rattle.outside.specs.Held.{Files, Appended}
use Rattle.soc_model.specs.Chips.{SocValue}
use Rattle.plan_model.specs.Plans.{LimitsValue, PlanValue}
use Rattle.plan_model.specs.Rules.{IsGood}
use Rattle.soc_printer.specs.SocText.{soc_text}
use Rattle.plan_text.specs.PlanLines.{plan_text}
use Rattle.chart.specs.ChartText.{chart_text}
use Rattle.report.specs.ReportText.{report_text}
use Rattle.planner.specs.Plans.{IsPlanned}
use Rattle.sample_maker.specs.Samples.{made_chip}
use Rattle.split_plan.specs.Parts.{split_chip, split_limits, split_of}
use Rattle.fail_locate.specs.Laws.{SpotsAreReads}
use Rattle.fail_locate.specs.LogAnswers.{SaysLog}
use Rattle.commands.specs.declared.FileKind.TheVariants.{Log, Program}
use Rattle.commands.specs.declared.Status.TheVariants.{Done}
use Rattle.commands.specs.Procedures.{Unless, done_with, with_both}
use Rattle.commands.specs.Answers.{Answers}
use Rattle.commands.specs.Settled.{FilesSayOneThing}
use Rattle.commands.specs.Kept.{IsKept}
use Rattle.commands.specs.Trusted.{TrustLaws, IsChipIn, AreLimitsIn}
use Rattle.commands.proofs.Trusted.{stage_done, both_done, accepted, accepted_good, made, not_refused}
use Rattle.commands.proofs.Settled.{done_once, left_open}
use Rattle.commands.proofs.Completeness.{settled_chip, settled_both, settled_all}
use Rattle.plan_commands.specs.Laws.{PlanLaws}
use Rattle.plan_commands.specs.Samples.{sample_limits, sample_text}
use Rattle.plan_commands.specs.SplitText.{split_text, split_refusal}
use Rattle.plan_commands.specs.Texts.{accepted_line}
use Rattle.plan_commands.specs.LogReadings.{RefusesFails}
use Rattle.plan_commands.specs.LocateText.{locate_text}
use Rattle.plan_commands.specs.ShiftPrograms.{SaysRight, RefusesProgram, accepted_program}
use Rattle.plan_commands.specs.WidthsText.{widths_text}
use Rattle.plan_commands.specs.Procedures.{done_with_plan, done_with_sample, done_with_split, sample_refusal, print_procedure, widths_procedure, plan_procedure, check_procedure, chart_procedure, report_procedure, sample_procedure, split_procedure, locate_procedure, shift_procedure}
use Rattle.plan_commands.specs.Promises.{TellsFails, TellsProgram, IsPlanPrinted, IsChecked, IsCharted, IsLocated, IsProgramRight, IsSummedUp, IsReported, IsTrustworthySplit}
use Rattle.plan_commands.proofs.LogFiles.{log_after_plan, settled_log}
use Rattle.plan_commands.proofs.PartsServed.{parts_printed}
use Rattle.plan_commands.proofs.ProgramAnswers.{program_after_plan, settled_program}
use Rattle.plan_commands.proofs.Reported.{reported}

-- ---- over a chip

pub print_kept : FilesSayOneThing → (soc : List ℕ) → IsKept true (print_procedure soc) (λ files old new. Unit {0})
print_kept laws soc = record {
  named = tt;
  settled = settled_chip laws true (λ chip. done_with (soc_text chip)) (λ chip. done_once true (soc_text chip)) soc;
  trusted = λ files text old new answer put. tt;
}

pub widths_kept : FilesSayOneThing → (soc : List ℕ) (wires : ℕ) → IsKept true (widths_procedure soc wires) (λ files old new. Unit {0})
widths_kept laws soc wires = record {
  named = tt;
  settled = settled_chip laws true (λ chip. done_with (widths_text chip wires)) (λ chip. done_once true (widths_text chip wires)) soc;
  trusted = λ files text old new answer put. tt;
}

-- ---- with a plan that is made

-- the planner's plan for a chip and limits that are read, whose text is written
printed : TrustLaws → (files : Files) (soc limits : List ℕ) (text : List ℕ) (old new : Option (List ℕ)) → Answers (with_both soc limits done_with_plan) files Done text → Appended old text new → IsPlanPrinted files soc limits old new
printed laws files soc limits text old new answer put =
    let b = both_done files soc limits text done_with_plan answer in
    made laws (IsChipIn files soc) (AreLimitsIn files limits) (λ chip value t. t ≡ plan_text value) b.0 b.1 b.4.1.0 text old new b.2 b.3 b.3.says.sound.some_wire b.4.1.1.good b.4.1.1.accepted b.4.1.2 put

pub plan_kept : FilesSayOneThing → TrustLaws → (soc limits : List ℕ) → IsKept false (plan_procedure soc limits) (λ files. IsPlanPrinted files soc limits)
plan_kept laws trust soc limits = record {
  named = tt;
  settled = settled_both laws false soc limits done_with_plan (λ chip bounds. left_open (λ text. (value : PlanValue) × IsPlanned chip bounds value × (text ≡ plan_text value)));
  trusted = λ files text old new answer put. printed trust files soc limits text old new answer put;
}

-- the plan of a made chip, which is summed up
sampled : TrustLaws → (files : Files) (n seed : ℕ) (text : List ℕ) (old new : Option (List ℕ)) → Answers (done_with_sample n seed) files Done text → Appended old text new → IsSummedUp n seed old new
sampled laws files n seed text old new answer put =
    made laws (λ chip. chip ≡ made_chip n seed) (λ chip bounds. bounds ≡ sample_limits) (λ chip value t. t ≡ sample_text n seed chip value)
    (made_chip n seed) sample_limits answer.1.0 text old new refl refl (omega arith) answer.1.1.good answer.1.1.accepted answer.1.2 put

pub sample_kept : TrustLaws → (n seed : ℕ) → IsKept false (sample_procedure n seed) (λ files. IsSummedUp n seed)
sample_kept trust n seed = record {
  named = tt;
  settled = left_open (λ text. (value : PlanValue) × IsPlanned (made_chip n seed) sample_limits value × (text ≡ sample_text n seed (made_chip n seed) value));
  trusted = λ files text old new answer put. sampled trust files n seed text old new (not_refused files (sample_refusal n) (done_with_sample n seed) text answer) put;
}

pub split_kept : FilesSayOneThing → TrustLaws → (soc limits : List ℕ) (most : ℕ) → 1 ≤ most → IsKept false (split_procedure soc limits most) (λ files. IsTrustworthySplit files soc limits most)
split_kept laws trust soc limits most some = record {
  named = tt;
  settled = settled_both laws false soc limits (λ chip bounds. Unless (split_refusal chip bounds most) (done_with_split chip bounds most))
      (λ chip bounds. left_open (λ text. (value : PlanValue) × IsPlanned (split_chip bounds most chip) (split_limits bounds most chip) value × (text ≡ split_text (split_of chip bounds most) value)));
  trusted = λ files text old new answer put. parts_printed trust files soc limits most some text old new answer put;
}

-- ---- over a plan that is accepted

pub check_kept : FilesSayOneThing → TrustLaws → (soc limits plan : List ℕ) → IsKept true (check_procedure soc limits plan) (λ files. IsChecked files soc limits plan)
check_kept laws trust soc limits plan = record {
  named = tt;
  settled = settled_all laws true soc limits plan (λ chip bounds value. done_with (accepted_line value)) (λ chip bounds value. done_once true (accepted_line value));
  trusted = λ files text old new answer put.
      accepted trust files soc limits plan (λ chip value t. t ≡ accepted_line value) (λ chip bounds value. done_with (accepted_line value)) (λ chip bounds value text a. a.1) text old new answer put;
}

pub chart_kept : FilesSayOneThing → TrustLaws → (soc limits plan : List ℕ) → IsKept true (chart_procedure soc limits plan) (λ files. IsCharted files soc limits plan)
chart_kept laws trust soc limits plan = record {
  named = tt;
  settled = settled_all laws true soc limits plan (λ chip bounds value. done_with (chart_text chip value)) (λ chip bounds value. done_once true (chart_text chip value));
  trusted = λ files text old new answer put.
      accepted trust files soc limits plan (λ chip value t. t ≡ chart_text chip value) (λ chip bounds value. done_with (chart_text chip value)) (λ chip bounds value text a. a.1) text old new answer put;
}

pub report_kept : FilesSayOneThing → TrustLaws → PlanLaws → (soc limits plan : List ℕ) → IsKept true (report_procedure soc limits plan) (λ files. IsReported files soc limits plan)
report_kept laws trust plans soc limits plan = record {
  named = tt;
  settled = settled_all laws true soc limits plan (λ chip bounds value. done_with (report_text chip bounds value)) (λ chip bounds value. done_once true (report_text chip bounds value));
  trusted = λ files text old new answer put. reported trust plans.reports files soc limits plan text old new answer put;
}

-- ---- and one more file

-- the fails of a log, of which the lines are written
located : SpotsAreReads → (files : Files) (log : List ℕ) (chip : SocValue) (bounds : LimitsValue) (value : PlanValue) (text : List ℕ) → IsGood chip bounds value → Answers (log_after_plan log chip bounds value) files Done text → TellsFails files log chip value text
located reads files log chip bounds value text good answer =
    let a = stage_done Log SaysLog RefusesFails (λ fails. Answers (done_with (locate_text chip value fails)) files) (get files log) text answer in
    (a.0, a.1, a.2.1, λ content cycle wire. reads chip bounds value content cycle wire good)

pub locate_kept : FilesSayOneThing → TrustLaws → PlanLaws → (soc limits plan log : List ℕ) → IsKept true (locate_procedure soc limits plan log) (λ files. IsLocated files soc limits plan log)
locate_kept laws trust plans soc limits plan log = record {
  named = tt;
  settled = settled_all laws true soc limits plan (log_after_plan log) (settled_log log);
  trusted = λ files text old new answer put.
      accepted_good trust files soc limits plan (TellsFails files log) (log_after_plan log) (λ chip bounds value text good a. located plans.spots files log chip bounds value text good a) text old new answer put;
}

-- what is answered for a program is the text of one that is right
told_program : (files : Files) (program : List ℕ) (chip : SocValue) (bounds : LimitsValue) (value : PlanValue) (text : List ℕ) → Answers (program_after_plan program chip bounds value) files Done text → TellsProgram files program chip value text
told_program files program chip bounds value text answer =
    let d = stage_done Program (SaysRight chip value) (RefusesProgram chip value) (λ shifts. Answers (done_with (accepted_program chip value shifts)) files) (get files program) text answer in
    (d.0, d.1, d.2.1)

pub shift_kept : FilesSayOneThing → TrustLaws → PlanLaws → (soc limits plan program : List ℕ) → IsKept true (shift_procedure soc limits plan program) (λ files. IsProgramRight files soc limits plan program)
shift_kept laws trust plans soc limits plan program = record {
  named = tt;
  settled = settled_all laws true soc limits plan (program_after_plan program) (settled_program plans.programs program);
  trusted = λ files text old new answer put.
      accepted trust files soc limits plan (TellsProgram files program) (program_after_plan program) (λ chip bounds value text a. told_program files program chip bounds value text a) text old new answer put;
}
