-- What refuses the bytes of a file with a fail log.
use Rattle.std.specs.Prelude.{◌≡◌, ℕ, List}
use Rattle.fail_locate.specs.LogAnswers.{SaysLog, RefusesLog}
use Rattle.commands.specs.declared.FileKind.TheVariants.{Log}
use Rattle.commands.specs.Procedures.{Procedure, Read}
use Rattle.plan_commands.specs.Texts.{log_line}

-- the log's text is refused at a line
abbrev pub RefusesFails : List ℕ → List ℕ → Type 0
RefusesFails bytes text = (line : ℕ) × RefusesLog bytes line × (text ≡ log_line line)

-- the fails of a log
abbrev pub with_log : (log : List ℕ) → (List (ℕ × ℕ) → Procedure) → Procedure
with_log log next = Read Log SaysLog RefusesFails log next
