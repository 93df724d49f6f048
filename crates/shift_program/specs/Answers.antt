-- What is answered of a program's text.
use Rattle.std.specs.Prelude.{ℕ, List, Result, Ok, Err}
use Rattle.outside.specs.declared.reading.Unread.{Unread}
use Rattle.outside.specs.declared.reading.Unread.TheVariants as unread
use Rattle.keyword_text.specs.Texts.{Refuses, Says as SaysProgram}
use Rattle.shift_program.specs.declared.Program.{Program}
use Rattle.shift_program.specs.declared.ProgramTextFault.{ProgramTextFault}
use Rattle.shift_program.specs.declared.ProgramTextFault.TheVariants.{Text, NoMemory}
use Rattle.shift_program.specs.Programs.{ProgramValue, program_value}
use Rattle.shift_program.specs.Grammar.{program_grammar, IsInRange}

-- the grammar refuses the text at this line
abbrev pub RefusesText : List ℕ → ℕ → Type 0
RefusesText bytes line = Refuses program_grammar bytes line

-- why a program isn't read
abbrev pub program_unread : ProgramTextFault → Unread
program_unread (Text line) = unread.Refused line
program_unread NoMemory = unread.NoMemory

-- a program that a text says
pub record IsReadProgram (bytes : List ℕ) (program : ProgramValue) : Type 0 where
  pub said : SaysProgram program_grammar bytes program
  pub range : IsInRange program

-- The program that the text says, with all its numbers in the grammar's range; or the line at which the grammar refuses the
-- text; or memory ran out.
abbrev pub ProgramRead : List ℕ → Result Program ProgramTextFault → Type 0
ProgramRead bytes (Ok program) = IsReadProgram bytes (program_value program)
ProgramRead bytes (Err (Text line)) = RefusesText bytes line
ProgramRead bytes (Err NoMemory) = Unit {0}

-- what a text says: a program; or the line at which it is refused
pub data TextMeaning : Type 0 where
  Says : ProgramValue → TextMeaning
  RefusedAt : (line : ℕ) → TextMeaning

-- the text means this
abbrev pub Means : List ℕ → TextMeaning → Type 0
Means bytes (Says program) = IsReadProgram bytes program
Means bytes (RefusedAt line) = RefusesText bytes line
