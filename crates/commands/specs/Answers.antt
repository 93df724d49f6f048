-- What a procedure answers over the files: the relation of held files, status and text.
use Rattle.std.specs.Prelude.{◌≡◌, ℕ, ◌⊎◌, List, Option, None, Some, length, nat_lt, MatchBool}
use Rattle.std.specs.FinMap.{get}
use Rattle.outside.specs.Held.{Files}
use Rattle.commands.specs.declared.FileKind.{FileKind}
use Rattle.commands.specs.declared.Status.{Status}
use Rattle.commands.specs.declared.Status.TheVariants.{Refused, BadWords, TooLong}
use Rattle.commands.specs.Texts.{too_long_line, bad_words_line}
use Rattle.commands.specs.Readings.{most_of}
use Rattle.commands.specs.Procedures.{Procedure, Read, Unless, Answer, NoCommand}

-- The stage of one file, by what its name holds. Where it isn't held no text is allowed; where it is too long or refused
-- a line says so; else the answer is that of what comes next, for the value that was read.
abbrev pub Stage : {V : Type 0} → FileKind → (List ℕ → V → Type 0) → (List ℕ → List ℕ → Type 0) → (V → Status → List ℕ → Type 0) →
    Option (List ℕ) → Status → List ℕ → Type 0
Stage file Says Refuses Next None status text = ⊥
Stage {V} file Says Refuses Next (Some bytes) status text =
    MatchBool (nat_lt (most_of file) (length bytes)) ((status ≡ TooLong) × (text ≡ too_long_line file))
    (((value : V) × Says bytes value × Next value status text) ⊎ ((status ≡ Refused) × Refuses bytes text))

-- a procedure's stages, one after another
abbrev pub Answers : Procedure → Files → Status → List ℕ → Type 0
Answers NoCommand files status text = (status ≡ BadWords) × (text ≡ bad_words_line)
Answers (Unless None next) files status text = Answers next files status text
Answers (Unless (Some line) next) files status text = (status ≡ Refused) × (text ≡ line)
Answers (Answer May) files status text = May status text
Answers (Read file Says Refuses name next) files status text =
    Stage file Says Refuses (λ value. Answers (next value) files) (get files name) status text
