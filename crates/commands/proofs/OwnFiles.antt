-- A file of a command's own: what is answered of its bytes is answered from the file on.
use Rattle.std.proofs.Common.{◌≡◌, ℕ, ◌≤◌, inl, inr, List, Option, Some, Result, Ok, Err, IfOk, IsTrue, length, refl, subst, sym, ◌∙◌, arith}
use Rattle.std.specs.Global.{Vec}
use Rattle.outside.specs.declared.NoMemory.{NoMemory as MemoryFault}
use Rattle.outside.specs.Held.{Files, WhereTold}
use Rattle.commands.specs.declared.FileKind.{FileKind}
use Rattle.commands.specs.declared.Status.TheVariants.{Done, Refused}
use Rattle.commands.specs.declared.Verdict.{Verdict}
use Rattle.commands.specs.declared.Verdict.TheVariants.{Answered, CannotRead, NoMemory as OutOfMemory}
use Rattle.commands.specs.Texts.{is_line}
use Rattle.commands.specs.Readings.{most_of}
use Rattle.commands.specs.Procedures.{Read, done_with, with_bytes}
use Rattle.commands.specs.Decides.{Follows, GivesText, AnswersBytes}
use Rattle.commands.proofs.FileStages.{after_file, done, no_value, read_from, refused, without_bytes}

-- ---- the verdict on bytes

-- bytes that say a value, whose answer was made
pub bytes_answered : {V : Type 0} (Says : List ℕ → V → Type 0) (Refused' : List ℕ → List ℕ → Type 0) (answer : V → List ℕ) (bytes : List ℕ) (value : V) (made : Result (Vec ℕ) MemoryFault) (verdict : Verdict) →
    Says bytes value → IfOk made (λ text. text.items ≡ answer value) → GivesText Done made verdict → AnswersBytes Says Refused' answer bytes verdict
bytes_answered Says Refused' answer bytes value (Ok text) (Answered status given) says is d = inl (d.0, (value, says, d.1 ∙ is))
bytes_answered Says Refused' answer bytes value (Ok text) (CannotRead file) says is d = absurd d
bytes_answered Says Refused' answer bytes value (Ok text) OutOfMemory says is d = tt
bytes_answered Says Refused' answer bytes value (Err fault) verdict says is d = rw d tt

-- bytes that a line refuses
pub bytes_refused : {V : Type 0} (Says : List ℕ → V → Type 0) (Refused' : List ℕ → List ℕ → Type 0) (answer : V → List ℕ) (bytes line : List ℕ) (made : Result (Vec ℕ) MemoryFault) (verdict : Verdict) →
    Refused' bytes line → IfOk made (λ text. text.items ≡ line) → IfOk made (λ text. IsTrue (is_line text.items)) → GivesText Refused made verdict → AnswersBytes Says Refused' answer bytes verdict
bytes_refused Says Refused' answer bytes line (Ok text) (Answered status given) why is one d = inr (d.0, subst (Refused' bytes) (sym (d.1 ∙ is)) why, rw d.1 one)
bytes_refused Says Refused' answer bytes line (Ok text) (CannotRead file) why is one d = absurd d
bytes_refused Says Refused' answer bytes line (Ok text) OutOfMemory why is one d = tt
bytes_refused Says Refused' answer bytes line (Err fault) verdict why is one d = rw d tt

-- ---- and from the file on

pub bytes_follow : {V : Type 0} (file : FileKind) (Says : List ℕ → V → Type 0) (Refused' : List ℕ → List ℕ → Type 0) (answer : V → List ℕ) (name bytes : List ℕ) (held : Option Files) (before after : ℕ) (verdict : Verdict) →
    WhereTold held name (λ o. o ≡ Some bytes) → length bytes ≤ most_of file → AnswersBytes Says Refused' answer bytes verdict → Follows (Read file Says Refused' name (λ value. done_with (answer value))) held before after verdict
bytes_follow file Says Refused' answer name bytes held before after (Answered status text) told within (inl a) =
    after_file file Says Refused' name (λ value. done_with (answer value)) held before before after a.1.0 (Answered status text) (omega arith)
    (read_from file Says held name bytes a.1.0 told within a.1.1) (done (answer a.1.0) held before after (Answered status text) (a.0, a.1.2))
bytes_follow file Says Refused' answer name bytes held before after (Answered status text) told within (inr a) =
    refused file Says Refused' name (λ value. done_with (answer value)) held before after bytes text.items (Answered status text) told within a.1 (a.0, refl, a.2)
bytes_follow file Says Refused' answer name bytes held before after (CannotRead missed) told within a = absurd a
bytes_follow file Says Refused' answer name bytes held before after OutOfMemory told within a = tt

-- and so is the verdict without its bytes
pub unread_follows : {V : Type 0} (file : FileKind) (Says : List ℕ → V → Type 0) (Refused' : List ℕ → List ℕ → Type 0) (answer : V → List ℕ) (name : List ℕ) (held : Option Files) (before after : ℕ) (verdict : Verdict) →
    Follows (with_bytes file name) held before after verdict → Follows (Read file Says Refused' name (λ value. done_with (answer value))) held before after verdict
unread_follows file Says Refused' answer name held before after verdict d =
    no_value file Says Refused' name (λ value. done_with (answer value)) held before after verdict (without_bytes file Says Refused' name held before after verdict d)
