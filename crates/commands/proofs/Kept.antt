-- What holds of a command by itself holds of a call that answers it.
use Rattle.std.proofs.Common.{◌≡◌, ◌≢◌, ◌∙◌, ℕ, inl, inr, Bool, List, Option, None, Some, sym, subst}
use Rattle.outside.specs.Held.{Files, Appended}
use Rattle.commands.specs.declared.Status.{Status}
use Rattle.commands.specs.declared.Status.TheVariants.{Done, Refused, BadWords, WriteFault, NoMemory}
use Rattle.commands.specs.Procedures.{Procedure, Read, Unless, Answer, NoCommand}
use Rattle.commands.specs.Answers.{Answers}
use Rattle.commands.specs.Ends.{IsCommand, MayAnswer, Ends, EndsByWords, IsWritten}
use Rattle.commands.specs.Loads.{LoadsOf, LoadsDecide, EndsByLoads}
use Rattle.commands.specs.Kept.{IsKept}
use Rattle.commands.proofs.Trusted.{done_answer}

-- where the call ends with Done, what the command promises holds over the files that the shelf tells
pub trusted_at_end : {fixed : Bool} {steps : Procedure} {Trusts : Files → Option (List ℕ) → Option (List ℕ) → Type 0} → IsKept fixed steps Trusts →
    (held : Option Files) (sb sa kb ka : ℕ) (old new : Option (List ℕ)) (end : Status) (files : Files) → Ends (MayAnswer steps held sb sa) kb ka old end new → held ≡ Some files → end ≡ Done → Trusts files old new
trusted_at_end {fixed} {steps} {Trusts} kept held sb sa kb ka old new end files ends is done =
    let a = done_answer steps held sb sa kb ka old new end files ends is done in
    kept.trusted files a.0 old new a.1 a.2

-- ---- commands without a file

written_done : (status : Status) (text : List ℕ) (kb ka : ℕ) (old new : Option (List ℕ)) (end : Status) → IsWritten status text kb ka old end new → end ≡ Done → (status ≡ Done) × Appended old text new
written_done status text kb ka old new end (inl put) done = (sym put.0 ∙ done, put.1)
written_done status text kb ka old new end (inr failed) done = let wrong : WriteFault ≡ Done = sym failed.0 ∙ done in absurd cc

not_out : (status : Status) (text : List ℕ) → status ≡ NoMemory → status ≡ Done → ⊥
not_out status text out done = let wrong : NoMemory ≡ Done = sym out ∙ done in absurd cc

answer_decided : {S : Type 0} (is_load : LoadsOf S) (refusal : Option (List ℕ)) (May : Status → List ℕ → Type 0) (first last : S) (status : Status) (text : List ℕ) (files : Files) → LoadsDecide is_load (Unless refusal (Answer May)) first status text last → status ≡ Done →
    Answers (Unless refusal (Answer May)) files Done text
answer_decided is_load None May first last status text files (same, inl out) done = absurd (not_out status text out.0 done)
answer_decided is_load None May first last status text files (same, inr answer) done = subst (λ (s : Status). May s text) done answer
answer_decided is_load (Some line) May first last status text files (same, inl out) done = absurd (not_out status text out.0 done)
answer_decided is_load (Some line) May first last status text files (same, inr why) done = let wrong : Refused ≡ Done = sym why.0 ∙ done in absurd cc

-- What a command without a file writes where it ends with Done is its answer over any files, also where the shelf tells nothing.
pub answered_without_files : {S : Type 0} (is_load : LoadsOf S) (refusal : Option (List ℕ)) (May : Status → List ℕ → Type 0) (first last : S) (kb ka : ℕ) (old new : Option (List ℕ)) (end : Status) (files : Files) →
    EndsByLoads is_load (Unless refusal (Answer May)) first last kb ka old end new → end ≡ Done → (text : List ℕ) × Answers (Unless refusal (Answer May)) files Done text × Appended old text new
answered_without_files is_load refusal May first last kb ka old new end files ends done =
    let w = written_done ends.0 ends.1 kb ka old new end ends.3 done in
    (ends.1, answer_decided is_load refusal May first last ends.0 ends.1 files ends.2 w.0, w.1)

-- ---- words

-- the words of a command aren't bad
pub never_bad : (steps : Procedure) (failed : Type 0) (end : Status) → IsCommand steps → EndsByWords steps failed end → end ≢ BadWords
never_bad NoCommand failed end is by_words = absurd is
never_bad (Answer May) failed end is by_words = by_words
never_bad (Unless refusal next) failed end is by_words = by_words
never_bad (Read file Says Refuses name next) failed end is by_words = by_words
