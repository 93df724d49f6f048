-- What the commands promise of the plans that they print or accept, over the files that they name.
use Rattle.std.specs.Prelude.{◌≡◌, ℕ, List, Option}
use Rattle.std.specs.FinMap.{get}
use Rattle.outside.specs.Held.{Files}
use Rattle.soc_model.specs.Chips.{SocValue}
use Rattle.plan_model.specs.Plans.{PlanValue}
use Rattle.plan_model.specs.Runs.{Content}
use Rattle.plan_text.specs.PlanLines.{plan_text}
use Rattle.chart.specs.ChartText.{chart_text}
use Rattle.sample_maker.specs.Samples.{made_chip}
use Rattle.fail_locate.specs.Laws.{FindsReads}
use Rattle.fail_locate.specs.LogAnswers.{SaysLog}
use Rattle.shift_program.specs.Programs.{ProgramValue}
use Rattle.commands.specs.declared.FileKind.TheVariants.{Log, Program}
use Rattle.commands.specs.Readings.{IsRead}
use Rattle.commands.specs.Trusted.{IsChipIn, AreLimitsIn, IsPlanIn, IsMade, IsTrustworthy}
use Rattle.plan_commands.specs.Texts.{accepted_line}
use Rattle.plan_commands.specs.Samples.{sample_limits, sample_text}
use Rattle.plan_commands.specs.LocateText.{locate_text}
use Rattle.plan_commands.specs.ShiftPrograms.{SaysRight, accepted_program}
pub use Rattle.plan_commands.specs.Reports.{IsReported}
pub use Rattle.plan_commands.specs.SplitEnds.{IsTrustworthySplit}

-- ---- what is told beside a plan

-- the fails of a file's log
abbrev pub AreFailsIn : Files → (log : List ℕ) → List (ℕ × ℕ) → Type 0
AreFailsIn files log fails = IsRead Log SaysLog (get files log) fails

-- the text has a line for each fail of a file's log, by the bit that the run reads at that cycle on that wire, for every content
abbrev pub TellsFails : Files → (log : List ℕ) → SocValue → PlanValue → List ℕ → Type 0
TellsFails files log chip value text =
    (fails : List (ℕ × ℕ)) × AreFailsIn files log fails × (text ≡ locate_text chip value fails)
    × ((content : Content) (cycle wire : ℕ) → FindsReads chip value content cycle wire)

-- the text is that of a file's program, which is right for its test in the plan and takes at least the test's cycles
abbrev pub TellsProgram : Files → (program : List ℕ) → SocValue → PlanValue → List ℕ → Type 0
TellsProgram files program chip value text =
    (shifts : ProgramValue) × IsRead Program (SaysRight chip value) (get files program) shifts × (text ≡ accepted_program chip value shifts)

-- ---- of each command, beside a report and a chip of parts

-- a plan is made for a chip and limits, and printed
abbrev pub IsPlanPrinted : Files → (soc limits : List ℕ) → Option (List ℕ) → Option (List ℕ) → Type 0
IsPlanPrinted files soc limits old new =
    IsTrustworthy (IsChipIn files soc) (AreLimitsIn files limits) IsMade (λ chip value text. text ≡ plan_text value) old new

-- a plan is accepted
abbrev pub IsChecked : Files → (soc limits plan : List ℕ) → Option (List ℕ) → Option (List ℕ) → Type 0
IsChecked files soc limits plan old new = IsTrustworthy (IsChipIn files soc) (AreLimitsIn files limits) (IsPlanIn files plan)
    (λ chip value text. text ≡ accepted_line value) old new

-- its schedule is drawn
abbrev pub IsCharted : Files → (soc limits plan : List ℕ) → Option (List ℕ) → Option (List ℕ) → Type 0
IsCharted files soc limits plan old new = IsTrustworthy (IsChipIn files soc) (AreLimitsIn files limits) (IsPlanIn files plan)
    (λ chip value text. text ≡ chart_text chip value) old new

-- the fails of a log are located in it
abbrev pub IsLocated : Files → (soc limits plan log : List ℕ) → Option (List ℕ) → Option (List ℕ) → Type 0
IsLocated files soc limits plan log old new =
    IsTrustworthy (IsChipIn files soc) (AreLimitsIn files limits) (IsPlanIn files plan) (TellsFails files log) old new

-- a program is right for its test in it
abbrev pub IsProgramRight : Files → (soc limits plan program : List ℕ) → Option (List ℕ) → Option (List ℕ) → Type 0
IsProgramRight files soc limits plan program old new =
    IsTrustworthy (IsChipIn files soc) (AreLimitsIn files limits) (IsPlanIn files plan) (TellsProgram files program) old new

-- the plan that is summed up is one of the made chip under the limits for it
abbrev pub IsSummedUp : (n seed : ℕ) → Option (List ℕ) → Option (List ℕ) → Type 0
IsSummedUp n seed old new = IsTrustworthy (λ chip. chip ≡ made_chip n seed) (λ chip bounds. bounds ≡ sample_limits) IsMade
    (λ chip value text. text ≡ sample_text n seed chip value) old new
