-- How a call ends, and what is then written.
use Rattle.std.specs.Prelude.{◌≡◌, ◌≢◌, ℕ, ◌⊎◌, Bool, true, false, List, Option, None, Some, IfSome, IsTrue}
use Rattle.std.specs.FinMap.{get}
use Rattle.outside.specs.Held.{Files, Rose, Appended, AppendedFront}
use Rattle.outside.specs.Puts.{Puts}
use Rattle.outside.specs.declared.sink.Put.{Put}
use Rattle.commands.specs.declared.FileKind.{FileKind}
use Rattle.commands.specs.declared.Status.{Status}
use Rattle.commands.specs.declared.Status.TheVariants.{Done, Refused, BadWords, ReadFault, TooLong, WriteFault, NoMemory}
use Rattle.commands.specs.declared.Verdict.{Verdict}
use Rattle.commands.specs.declared.Verdict.TheVariants.{Answered, CannotRead, NoMemory as OutOfMemory}
use Rattle.commands.specs.Texts.{is_line, unread_line, bad_words_line}
use Rattle.commands.specs.Readings.{IsRead}
use Rattle.commands.specs.Procedures.{Procedure, Read, Unless, Answer, NoCommand}
use Rattle.commands.specs.Answers.{Answers}
use Rattle.commands.specs.Decides.{IsUnread}

abbrev pub status_number : Status → ℕ
status_number Done = 0
status_number Refused = 1
status_number BadWords = 2
status_number ReadFault = 3
status_number TooLong = 4
status_number WriteFault = 5
status_number NoMemory = 6

-- ---- what is written of a verdict

-- A text was written for its status; or the output failed, and some front of the text is written.
abbrev pub IsWritten : Status → List ℕ → ℕ → ℕ → Option (List ℕ) → Status → Option (List ℕ) → Type 0
IsWritten status text before after old end new =
    ((end ≡ status) × Appended old text new) ⊎ ((end ≡ WriteFault) × Rose before after × AppendedFront old text new)

-- what is written of a verdict, by the count of the output's faults, and how the call then ends
abbrev pub Writes : Verdict → ℕ → ℕ → Option (List ℕ) → Status → Option (List ℕ) → Type 0
Writes (Answered status text) before after old end new = IsWritten status text.items before after old end new
Writes (CannotRead file) before after old end new = IsWritten ReadFault (unread_line file) before after old end new
Writes OutOfMemory before after old end new = (end ≡ NoMemory) × (new ≡ old)

-- The line that refuses is written, or else the text, by the count of the output's faults; or nothing where memory runs out.
abbrev pub WritesUnless : Option (List ℕ) → List ℕ → ℕ → ℕ → Option (List ℕ) → Status → Option (List ℕ) → Type 0
WritesUnless None text before after old end new = ((end ≡ NoMemory) × (new ≡ old)) ⊎ IsWritten Done text before after old end new
WritesUnless (Some line) text before after old end new =
    ((end ≡ NoMemory) × (new ≡ old)) ⊎ (IsTrue (is_line line) × IsWritten Refused line before after old end new)

-- ---- which puts are made

-- the last put failed exactly where the output failed in the place of the status
abbrev pub PutsFor : {S : Type 0} → (S → List ℕ → Put → S → Type 0) → S → (status end : Status) → S → Type 0
PutsFor is_put first status end last = ((end ≡ status) × Puts is_put first false last) ⊎ ((end ≡ WriteFault) × Puts is_put first true last)

-- the puts of what is written of a verdict
abbrev pub PutsVerdict : {S : Type 0} → (S → List ℕ → Put → S → Type 0) → Verdict → S → Status → S → Type 0
PutsVerdict is_put (Answered status text) first end last = PutsFor is_put first status end last
PutsVerdict is_put (CannotRead file) first end last = PutsFor is_put first ReadFault end last
PutsVerdict is_put OutOfMemory first end last = (end ≡ NoMemory) × (last ≡ first)

-- the puts of a call that ends so: none where memory runs out, and the last one failed exactly where the output did
abbrev pub MakesPuts : {S : Type 0} → (S → List ℕ → Put → S → Type 0) → S → Status → S → Type 0
MakesPuts is_put first NoMemory last = last ≡ first
MakesPuts is_put first WriteFault last = Puts is_put first true last
MakesPuts is_put first end last = Puts is_put first false last

-- ---- what may be answered

-- a status and its text answer what is asked for, over what the shelf tells and its counts of faults
abbrev pub MayAnswer : Procedure → Option Files → ℕ → ℕ → Status → List ℕ → Type 0
MayAnswer steps held before after ReadFault text = (file : FileKind) × (text ≡ unread_line file) × IsUnread steps held before after file
MayAnswer steps held before after WriteFault text = ⊥
MayAnswer steps held before after NoMemory text = ⊥
MayAnswer steps held before after status text = IfSome held (λ files. Answers steps files status text)

-- where the shelf tells, the procedure may answer the line that refuses, or else the text
abbrev pub MayUnless : Procedure → Option Files → Option (List ℕ) → List ℕ → Type 0
MayUnless steps held None text = IfSome held (λ files. Answers steps files Done text)
MayUnless steps held (Some line) text = IfSome held (λ files. Answers steps files Refused line)

-- What is written when a call ends so, where these texts may be answered. A failed output stands in the place of the
-- status that it was for, with a prefix of that text.
abbrev pub Ends : (Status → List ℕ → Type 0) → ℕ → ℕ → Option (List ℕ) → Status → Option (List ℕ) → Type 0
Ends May before after old NoMemory new = new ≡ old
Ends May before after old WriteFault new =
    Rose before after × ((status : Status) × (text : List ℕ) × May status text × AppendedFront old text new)
Ends May before after old status new = (text : List ℕ) × May status text × Appended old text new

-- the statuses that come with exactly one line, and with nothing
abbrev pub OneLine : Option (List ℕ) → Status → Option (List ℕ) → Type 0
OneLine old Done new = Unit {0}
OneLine old WriteFault new = Unit {0}
OneLine old NoMemory new = new ≡ old
OneLine old status new = (line : List ℕ) × IsTrue (is_line line) × Appended old line new

-- the words are those of a command
abbrev pub IsCommand : Procedure → Type 0
IsCommand NoCommand = ⊥
IsCommand (Answer May) = Unit {0}
IsCommand (Unless refusal next) = Unit {0}
IsCommand (Read file Says Refuses name next) = Unit {0}

-- BadWords comes exactly where the words are no command, unless memory runs out or the output fails.
abbrev pub EndsByWords : Procedure → Type 0 → Status → Type 0
EndsByWords NoCommand sink_failed end = (end ≡ BadWords) ⊎ (end ≡ NoMemory) ⊎ ((end ≡ WriteFault) × sink_failed)
EndsByWords steps sink_failed end = end ≢ BadWords

-- BadWords comes with its line, also where the shelf tells nothing.
abbrev pub SaysBadWords : Option (List ℕ) → Status → Option (List ℕ) → Type 0
SaysBadWords old end new = end ≡ BadWords → Appended old bad_words_line new

-- ---- when an answer comes

-- Where neither count of faults rose and the files give an answer, the call ends with its status, or with that of out of memory;
-- where the files fix the text of that answer (`fixed`), it is written.
abbrev pub EndsAsWanted : Bool → Status → List ℕ → Option (List ℕ) → Status → Option (List ℕ) → Type 0
EndsAsWanted fixed wanted text old end new = ((end ≡ wanted) × (IsTrue fixed → Appended old text new)) ⊎ (end ≡ NoMemory)

abbrev pub Complete : (fixed : Bool) → Procedure → Option Files → Type 0 → Type 0 → Option (List ℕ) → Status → Option (List ℕ) → Type 0
Complete fixed steps held shelf_failed sink_failed old end new =
    (files : Files) (wanted : Status) (text : List ℕ) → held ≡ Some files → ¬ shelf_failed → ¬ sink_failed →
    Answers steps files wanted text → EndsAsWanted fixed wanted text old end new

-- every file of a procedure is held within its limit and says a value, and the command has no refusal of its own
abbrev pub AreTaken : Procedure → Files → Type 0
AreTaken NoCommand files = ⊥
AreTaken (Answer May) files = Unit {0}
AreTaken (Unless None next) files = AreTaken next files
AreTaken (Unless (Some line) next) files = ⊥
AreTaken (Read {V} file Says Refuses name next) files = (value : V) × IsRead file Says (get files name) value × AreTaken (next value) files

-- Where neither count of faults rose and every file of the command is taken, the call ends with Done, or out of memory.
abbrev pub Finishes : Procedure → Option Files → Type 0 → Type 0 → Status → Type 0
Finishes steps held shelf_failed sink_failed end =
    (files : Files) → held ≡ Some files → ¬ shelf_failed → ¬ sink_failed → AreTaken steps files → (end ≡ Done) ⊎ (end ≡ NoMemory)
