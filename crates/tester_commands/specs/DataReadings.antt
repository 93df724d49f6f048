-- What the bytes of a file with test data say for a chip, the lines that refuse them, and what a call that loads them answers.
use Rattle.std.specs.Prelude.{◌≡◌, ℕ, ◌⊎◌, List, Option, None, Some, Result, Ok, Err, IfSome}
use Rattle.std.specs.FinMap.{get}
use Rattle.outside.specs.Held.{Files}
use Rattle.soc_model.specs.Chips.{SocValue}
use Rattle.test_data.specs.declared.DataFault.{DataFault}
use Rattle.test_data.specs.declared.DataFault.TheVariants.{Text, NoMemory}
use Rattle.test_data.specs.declared.Misfit.{Misfit}
use Rattle.test_data.specs.DataWords.{EntryValue, SaysData, RefusesData as RefusesText}
use Rattle.test_data.specs.Suiting.{misfit_of}
use Rattle.commands.specs.declared.FileKind.TheVariants.{Data}
use Rattle.commands.specs.declared.Verdict.{Verdict}
use Rattle.commands.specs.declared.Verdict.TheVariants.{NoMemory as OutOfMemory}
use Rattle.commands.specs.Decides.{Follows, Refuses}
use Rattle.commands.specs.Loads.{LoadsOf, IsLoaded, StopsAt, OfVerdict}
use Rattle.commands.specs.Procedures.{Procedure, Read, nothing}
use Rattle.commands.specs.Readings.{IsRead}
use Rattle.tester_commands.specs.DataLines.{data_line, misfit_line}

-- the text says the entries, which suit the chip
abbrev pub SaysSuiting : SocValue → List ℕ → List EntryValue → Type 0
SaysSuiting chip bytes es = SaysData bytes es × (misfit_of chip es ≡ None)

-- the text is refused at a line, or says entries that don't suit the chip
abbrev pub RefusesData : SocValue → List ℕ → List ℕ → Type 0
RefusesData chip bytes text =
    ((line : ℕ) × RefusesText bytes line × (text ≡ data_line line))
    ⊎ ((es : List EntryValue) × SaysData bytes es × ((m : Misfit) × (misfit_of chip es ≡ Some m) × (text ≡ misfit_line m)))

-- a file with data that suits a chip
abbrev pub with_data : SocValue → (name : List ℕ) → (List EntryValue → Procedure) → Procedure
with_data chip name next = Read Data (SaysSuiting chip) (RefusesData chip) name next

-- ---- what is answered

-- the answer to a text that isn't taken
abbrev pub RefusesFault : DataFault → Verdict → Type 0
RefusesFault (Text line) verdict = Refuses (data_line line) verdict
RefusesFault NoMemory verdict = verdict ≡ OutOfMemory

-- data that suits the chip, or the answer to what shows that it doesn't
abbrev pub AnswersSuiting : SocValue → List EntryValue → Result (List EntryValue) Verdict → Type 0
AnswersSuiting chip es (Ok kept) = (kept ≡ es) × (misfit_of chip es ≡ None)
AnswersSuiting chip es (Err verdict) =
    ((m : Misfit) × (misfit_of chip es ≡ Some m) × Refuses (misfit_line m) verdict) ⊎ (verdict ≡ OutOfMemory)

-- data that was read from what the shelf tells, or a verdict without it
abbrev pub LoadsSuiting : SocValue → (name : List ℕ) → Option Files → ℕ → ℕ → Result (List EntryValue) Verdict → Type 0
LoadsSuiting chip name held before after (Ok es) = IfSome held (λ files. IsRead Data (SaysSuiting chip) (get files name) es)
LoadsSuiting chip name held before after (Err verdict) = Follows (with_data chip name (λ es. nothing)) held before after verdict

-- data that was loaded, or a verdict at which the loads stop
abbrev pub LoadsData : {S : Type 0} → LoadsOf S → SocValue → (name : List ℕ) → S → Result (List EntryValue) Verdict → S → Type 0
LoadsData is_load chip name first (Ok es) last = IsLoaded is_load Data (SaysSuiting chip) name es first last
LoadsData is_load chip name first (Err verdict) last =
    OfVerdict (λ status text. StopsAt is_load Data (RefusesData chip) name first status text last) verdict
