-- How a call goes on with all files at hand.
use Rattle.std.proofs.Common.{◌≡◌, ℕ, List, Option, Some, IfOk, Result, inl, IsTrue}
use Rattle.std.specs.Global.{Vec}
use Rattle.outside.specs.declared.NoMemory.{NoMemory as MemoryFault}
use Rattle.outside.specs.Held.{Files}
use Rattle.soc_model.specs.Chips.{SocValue}
use Rattle.plan_model.specs.Plans.{PlanValue}
use Rattle.test_data.specs.DataWords.{EntryValue}
use Rattle.commands.specs.declared.Status.TheVariants.{Refused}
use Rattle.commands.specs.declared.Verdict.{Verdict}
use Rattle.commands.specs.Decides.{GivesText}
use Rattle.commands.specs.Endings.{Continues}
use Rattle.commands.specs.Procedures.{done_with}
use Rattle.commands.specs.Texts.{is_line}
use Rattle.commands.proofs.FileStages.{line_refuses, unless_line}
use Rattle.tester_commands.specs.declared.ending.RunForm.{RunForm}
use Rattle.tester_commands.specs.Procedures.{with_run, long_run_refusal}
use Rattle.tester_commands.specs.RunTexts.{run_text}

-- a run that is refused
pub refused_run : (form : RunForm) (chip : SocValue) (value : PlanValue) (es : List EntryValue) (line : List ℕ) (made : Result (Vec ℕ) MemoryFault) (verdict : Verdict) (held : Option Files) (before after : ℕ) → long_run_refusal value ≡ Some line →
    IfOk made (λ text. text.items ≡ line) → IfOk made (λ text. IsTrue (is_line text.items)) → GivesText Refused made verdict → Continues (with_run form chip value es) held before after (inl verdict)
refused_run form chip value es line made verdict held before after long says one given =
    unless_line (long_run_refusal value) line (done_with (run_text form chip value es)) held before after verdict long (line_refuses line made verdict says one given)
