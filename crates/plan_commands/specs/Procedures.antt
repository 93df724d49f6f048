-- What each command over plans does: it takes its files one after another, and then answers.
use Rattle.std.specs.Prelude.{◌≡◌, ℕ, List, Option, None, Some, ◌||◌, nat_eq, nat_lt, if◌then◌else◌}
use Rattle.soc_model.specs.Chips.{SocValue}
use Rattle.plan_model.specs.Plans.{LimitsValue, PlanValue}
use Rattle.soc_printer.specs.SocText.{soc_text}
use Rattle.chart.specs.ChartText.{chart_text}
use Rattle.report.specs.ReportText.{report_text}
use Rattle.planner.specs.Plans.{IsPlanned}
use Rattle.plan_text.specs.PlanLines.{plan_text}
use Rattle.sample_maker.specs.Samples.{made_chip}
use Rattle.sample_maker.specs.declared.TheConstants.{SAMPLE_MODULES_MOST}
use Rattle.split_plan.specs.Parts.{split_chip, split_limits, split_of}
use Rattle.commands.specs.Procedures.{Procedure, Unless, done_with, done_with_any, with_chip, with_both, with_all}
use Rattle.plan_commands.specs.Samples.{sample_limits, sample_line, sample_text}
use Rattle.plan_commands.specs.SplitText.{split_text, split_refusal}
use Rattle.plan_commands.specs.Texts.{accepted_line}
use Rattle.plan_commands.specs.LocateText.{locate_text}
use Rattle.plan_commands.specs.LogReadings.{with_log}
use Rattle.plan_commands.specs.ShiftPrograms.{accepted_program, with_program}
use Rattle.plan_commands.specs.WidthsText.{widths_text}

-- ---- answers of which there may be several

-- the answer is the text of any plan that the planner may make for a chip under limits
abbrev pub done_with_plan : SocValue → LimitsValue → Procedure
done_with_plan chip bounds = done_with_any (λ text. (value : PlanValue) × IsPlanned chip bounds value × (text ≡ plan_text value))

-- the answer is the summary of a made chip and of any plan that the planner may make for it
abbrev pub done_with_sample : (n seed : ℕ) → Procedure
done_with_sample n seed = done_with_any (λ text. (value : PlanValue) × IsPlanned (made_chip n seed) sample_limits value
    × (text ≡ sample_text n seed (made_chip n seed) value))

-- the line that refuses a number of modules
abbrev pub sample_refusal : (n : ℕ) → Option (List ℕ)
sample_refusal n = if nat_eq n 0 || nat_lt SAMPLE_MODULES_MOST n then Some (sample_line n) else None

-- the answer is the text of the parts of a chip and of any plan that the planner may make for them
abbrev pub done_with_split : SocValue → LimitsValue → (most : ℕ) → Procedure
done_with_split chip bounds most = done_with_any (λ text. (value : PlanValue)
    × IsPlanned (split_chip bounds most chip) (split_limits bounds most chip) value × (text ≡ split_text (split_of chip bounds most) value))

-- ---- the commands

abbrev pub print_procedure : (soc : List ℕ) → Procedure
print_procedure soc = with_chip soc (λ chip. done_with (soc_text chip))

abbrev pub widths_procedure : (soc : List ℕ) (wires : ℕ) → Procedure
widths_procedure soc wires = with_chip soc (λ chip. done_with (widths_text chip wires))

abbrev pub plan_procedure : (soc limits : List ℕ) → Procedure
plan_procedure soc limits = with_both soc limits done_with_plan

abbrev pub check_procedure : (soc limits plan : List ℕ) → Procedure
check_procedure soc limits plan = with_all soc limits plan (λ chip bounds value. done_with (accepted_line value))

abbrev pub chart_procedure : (soc limits plan : List ℕ) → Procedure
chart_procedure soc limits plan = with_all soc limits plan (λ chip bounds value. done_with (chart_text chip value))

abbrev pub report_procedure : (soc limits plan : List ℕ) → Procedure
report_procedure soc limits plan = with_all soc limits plan (λ chip bounds value. done_with (report_text chip bounds value))

abbrev pub sample_procedure : (n seed : ℕ) → Procedure
sample_procedure n seed = Unless (sample_refusal n) (done_with_sample n seed)

abbrev pub split_procedure : (soc limits : List ℕ) (most : ℕ) → Procedure
split_procedure soc limits most =
    with_both soc limits (λ chip bounds. Unless (split_refusal chip bounds most) (done_with_split chip bounds most))

abbrev pub locate_procedure : (soc limits plan log : List ℕ) → Procedure
locate_procedure soc limits plan log =
    with_all soc limits plan (λ chip bounds value. with_log log (λ fails. done_with (locate_text chip value fails)))

abbrev pub shift_procedure : (soc limits plan program : List ℕ) → Procedure
shift_procedure soc limits plan program = with_all soc limits plan
    (λ chip bounds value. with_program chip value program (λ shifts. done_with (accepted_program chip value shifts)))
