-- Reading word by word: the test and the entries that were read whole, and what was read of the next. Only the reader's own
-- contracts speak of it.
use Rattle.std.specs.Prelude.{ℕ, ◌++◌, [], ◌∷◌, Bool, true, false, nat_eq, nat_le, Option, None, Some}
use Rattle.keyword_text.specs.declared.tokens.Token.{Token}
use Rattle.keyword_text.specs.declared.tokens.Token.TheVariants.{Key, Number}
use Rattle.keyword_text.specs.Machines.{Machine}
use Rattle.shift_program.specs.declared.Entry.{Entry}
use Rattle.shift_program.specs.declared.Entry.TheVariants as entry
use Rattle.shift_program.specs.declared.tokens.Keyword.{Keyword}
use Rattle.shift_program.specs.declared.tokens.Keyword.TheVariants as key
use Rattle.shift_program.specs.declared.steps.Part.{Part}
use Rattle.shift_program.specs.declared.steps.Part.TheVariants as part
use Rattle.shift_program.specs.Programs.{ProgramValue}

pub record State : Type 0 where
  pub draft : ProgramValue
  pub part : Part

abbrev pub at : ProgramValue → Part → State
at draft part = record { draft = draft; part = part }

abbrev pub start : State
start = at (record { test = record { «module» = 0; test = 0 }; entries = [] }) part.WantsProgram

abbrev pub with_entry : ProgramValue → Entry → ProgramValue
with_entry d e = record d { entries = d.entries ++ e ∷ [] }

abbrev pub with_test : ProgramValue → ℕ → ℕ → ProgramValue
with_test d m n = record d { test = record { «module» = m; test = n } }

-- an entry of `n` cycles
abbrev pub lasting_entry : Bool → ℕ → Entry
lasting_entry true n = entry.Shift n
lasting_entry false n = entry.Rest n

abbrev pub next_if : Bool → State → Option State
next_if true s = Some s
next_if false s = None

abbrev pub step_number : ProgramValue → Part → ℕ → Option State
step_number d part.WantsProgram n = None
step_number d part.WantsForm n = next_if (nat_eq n 1) (at d part.WantsTestWord)
step_number d part.WantsTestWord n = None
step_number d part.WantsModule n = Some (at d (part.WantsTest n))
step_number d (part.WantsTest m) n = Some (at (with_test d m n) part.AfterEntry)
step_number d part.AfterEntry n = None
step_number d (part.WantsCycles shifts) n = next_if (nat_le 1 n) (at (with_entry d (lasting_entry shifts n)) part.AfterEntry)
step_number d part.WantsPattern n = Some (at (with_entry d (entry.Capture n)) part.AfterEntry)

-- what a keyword begins behind whole entries
abbrev pub begin : Keyword → Option Part
begin key.Rest = Some (part.WantsCycles false)
begin key.Shift = Some (part.WantsCycles true)
begin key.Capture = Some part.WantsPattern
begin key.Program = None
begin key.Test = None

abbrev pub begin_program : Keyword → Option Part
begin_program key.Program = Some part.WantsForm
begin_program key.Test = None
begin_program key.Rest = None
begin_program key.Shift = None
begin_program key.Capture = None

abbrev pub begin_test : Keyword → Option Part
begin_test key.Test = Some part.WantsModule
begin_test key.Program = None
begin_test key.Rest = None
begin_test key.Shift = None
begin_test key.Capture = None

abbrev pub begun : ProgramValue → Option Part → Option State
begun d None = None
begun d (Some part) = Some (at d part)

abbrev pub step_key : ProgramValue → Part → Keyword → Option State
step_key d part.WantsProgram k = begun d (begin_program k)
step_key d part.WantsForm k = None
step_key d part.WantsTestWord k = begun d (begin_test k)
step_key d part.WantsModule k = None
step_key d (part.WantsTest m) k = None
step_key d part.AfterEntry k = begun d (begin k)
step_key d (part.WantsCycles shifts) k = None
step_key d part.WantsPattern k = None

abbrev pub step : State → Token Keyword → Option State
step s (Number n) = step_number s.draft s.part n
step s (Key k) = step_key s.draft s.part k

-- ---- the end of a text

-- the program, where the words may end here
abbrev pub ended_by : ProgramValue → Part → Option ProgramValue
ended_by d part.WantsProgram = None
ended_by d part.WantsForm = None
ended_by d part.WantsTestWord = None
ended_by d part.WantsModule = None
ended_by d (part.WantsTest m) = None
ended_by d part.AfterEntry = Some d
ended_by d (part.WantsCycles shifts) = None
ended_by d part.WantsPattern = None

abbrev pub ended : State → Option ProgramValue
ended s = ended_by s.draft s.part

abbrev pub program_machine : Machine Keyword State ProgramValue
program_machine = record { start = start; step = step; end = ended }
