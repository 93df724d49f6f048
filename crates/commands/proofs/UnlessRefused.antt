-- A text that is answered and written unless a line refuses it.
use Rattle.std.proofs.Common.{◌≡◌, ◌≢◌, ℕ, inl, inr, List, Option, None, Some, IfSome, refl, sym, subst, ◌∙◌, IsTrue}
use Rattle.std.specs.FinMap.{get}
use Rattle.outside.specs.Held.{Files}
use Rattle.soc_model.specs.Chips.{SocValue}
use Rattle.plan_model.specs.Plans.{LimitsValue, PlanValue}
use Rattle.soc_reader.specs.ChipForm.{SaysChip}
use Rattle.commands.specs.declared.FileKind.TheVariants.{Soc, Limits, Plan}
use Rattle.commands.specs.declared.Status.{Status}
use Rattle.commands.specs.declared.Status.TheVariants.{Done, Refused, BadWords, WriteFault, NoMemory}
use Rattle.commands.specs.declared.Verdict.{Verdict}
use Rattle.commands.specs.declared.Verdict.TheVariants.{Answered, CannotRead, NoMemory as OutOfMemory}
use Rattle.commands.specs.AcceptedPlans.{AcceptedValue}
use Rattle.commands.specs.Answers.{Answers}
use Rattle.commands.specs.Decides.{AreRead, Refuses}
use Rattle.commands.specs.Ends.{IsCommand, MayUnless, IsWritten, Writes, WritesUnless, MayAnswer, Ends, OneLine, EndsByWords}
use Rattle.commands.specs.Procedures.{Procedure, Read, Unless, Answer, NoCommand, with_limits, with_accepted, with_all}
use Rattle.commands.specs.Readings.{RefusesChip, SaysLimits, RefusesLimits, SaysAccepted, RefusesPlan}
use Rattle.commands.specs.Texts.{is_line}
use Rattle.commands.proofs.FileStages.{go_on}
use Rattle.commands.proofs.Written.{ends_text}

-- ---- what may be answered

-- what comes after all three files is answered from the first file on
pub all_answers : (soc limits plan : List ℕ) (next : SocValue → LimitsValue → PlanValue → Procedure) (held : Option Files) (all : AcceptedValue) (status : Status) (text : List ℕ) → IfSome held (λ files. AreRead files soc limits plan all) →
    ((files : Files) → Answers (next all.soc all.limits all.plan) files status text) → IfSome held (λ files. Answers (with_all soc limits plan next) files status text)
all_answers soc limits plan next None all status text read answers = tt
all_answers soc limits plan next (Some files) all status text read answers =
    go_on Soc SaysChip RefusesChip (λ chip. Answers (with_limits chip limits (λ bounds. with_accepted chip bounds plan (next chip bounds))) files) (get files soc) all.soc status text read.chip
    (go_on Limits (SaysLimits all.soc) (RefusesLimits all.soc) (λ bounds. Answers (with_accepted all.soc bounds plan (next all.soc bounds)) files) (get files limits) all.limits status text read.bounds
    (go_on Plan (SaysAccepted all.soc all.limits) (RefusesPlan all.soc all.limits) (λ value. Answers (next all.soc all.limits value) files) (get files plan) all.plan status text read.value (answers files)))

-- the line that refuses, or else the text, may be answered
pub may_unless : (soc limits plan : List ℕ) (next : SocValue → LimitsValue → PlanValue → Procedure) (held : Option Files) (all : AcceptedValue) (refusal : Option (List ℕ)) (text : List ℕ) → IfSome held (λ files. AreRead files soc limits plan all) →
    next all.soc all.limits all.plan ≡ Unless refusal (Answer (λ status answer. (status ≡ Done) × (answer ≡ text))) → MayUnless (with_all soc limits plan next) held refusal text
may_unless soc limits plan next held all None text read is =
    all_answers soc limits plan next held all Done text read (λ files. subst (λ steps. Answers steps files Done text) (sym is) (refl, refl))
may_unless soc limits plan next held all (Some line) text read is =
    all_answers soc limits plan next held all Refused line read (λ files. subst (λ steps. Answers steps files Refused line) (sym is) (refl, refl))

-- ---- what is written

pub nothing_written : (refusal : Option (List ℕ)) (text : List ℕ) (kb ka : ℕ) (old new : Option (List ℕ)) → new ≡ old → WritesUnless refusal text kb ka old NoMemory new
nothing_written None text kb ka old new same = inl (refl, same)
nothing_written (Some line) text kb ka old new same = inl (refl, same)

pub refusal_written : (line text : List ℕ) (verdict : Verdict) (kb ka : ℕ) (old new : Option (List ℕ)) (end : Status) → Refuses line verdict → Writes verdict kb ka old end new → WritesUnless (Some line) text kb ka old end new
refusal_written line text (Answered status bytes) kb ka old new end r w =
    inr (subst (λ v. IsTrue (is_line v)) r.1 r.2, subst (λ v. IsWritten Refused v kb ka old end new) r.1 (subst (λ s. IsWritten s bytes.items kb ka old end new) r.0 w))
refusal_written line text (CannotRead file) kb ka old new end r w = absurd r
refusal_written line text OutOfMemory kb ka old new end r w = inl w

-- ---- how a call ends

pub unless_ends : (steps : Procedure) (held : Option Files) (sb sa kb ka : ℕ) (old new : Option (List ℕ)) (end : Status) (refusal : Option (List ℕ)) (text : List ℕ) → MayUnless steps held refusal text → WritesUnless refusal text kb ka old end new → Ends (MayAnswer steps held sb sa) kb ka old end new
unless_ends steps held sb sa kb ka old new end None text may (inl none) = subst (λ s. Ends (MayAnswer steps held sb sa) kb ka old s new) (sym none.0) none.1
unless_ends steps held sb sa kb ka old new end None text may (inr put) = ends_text steps held sb sa kb ka old new end Done text may put
unless_ends steps held sb sa kb ka old new end (Some line) text may (inl none) = subst (λ s. Ends (MayAnswer steps held sb sa) kb ka old s new) (sym none.0) none.1
unless_ends steps held sb sa kb ka old new end (Some line) text may (inr put) = ends_text steps held sb sa kb ka old new end Refused line may put.1

pub unless_one_line : (kb ka : ℕ) (old new : Option (List ℕ)) (end : Status) (refusal : Option (List ℕ)) (text : List ℕ) → WritesUnless refusal text kb ka old end new → OneLine old end new
unless_one_line kb ka old new end None text (inl none) = subst (λ s. OneLine old s new) (sym none.0) none.1
unless_one_line kb ka old new end None text (inr (inl put)) = subst (λ s. OneLine old s new) (sym put.0) tt
unless_one_line kb ka old new end None text (inr (inr failed)) = subst (λ s. OneLine old s new) (sym failed.0) tt
unless_one_line kb ka old new end (Some line) text (inl none) = subst (λ s. OneLine old s new) (sym none.0) none.1
unless_one_line kb ka old new end (Some line) text (inr (one, inl put)) = subst (λ s. OneLine old s new) (sym put.0) (line, one, put.1)
unless_one_line kb ka old new end (Some line) text (inr (one, inr failed)) = subst (λ s. OneLine old s new) (sym failed.0) tt

pub unless_never_bad : (kb ka : ℕ) (old new : Option (List ℕ)) (end : Status) (refusal : Option (List ℕ)) (text : List ℕ) → WritesUnless refusal text kb ka old end new → end ≢ BadWords
unless_never_bad kb ka old new end None text (inl none) bad = let wrong : NoMemory ≡ BadWords = sym none.0 ∙ bad in absurd cc
unless_never_bad kb ka old new end None text (inr (inl put)) bad = let wrong : Done ≡ BadWords = sym put.0 ∙ bad in absurd cc
unless_never_bad kb ka old new end None text (inr (inr failed)) bad = let wrong : WriteFault ≡ BadWords = sym failed.0 ∙ bad in absurd cc
unless_never_bad kb ka old new end (Some line) text (inl none) bad = let wrong : NoMemory ≡ BadWords = sym none.0 ∙ bad in absurd cc
unless_never_bad kb ka old new end (Some line) text (inr (one, inl put)) bad = let wrong : Refused ≡ BadWords = sym put.0 ∙ bad in absurd cc
unless_never_bad kb ka old new end (Some line) text (inr (one, inr failed)) bad = let wrong : WriteFault ≡ BadWords = sym failed.0 ∙ bad in absurd cc

-- a command that doesn't end with BadWords ends by its words
pub command_words : (steps : Procedure) (failed : Type 0) (end : Status) → IsCommand steps → end ≢ BadWords → EndsByWords steps failed end
command_words NoCommand failed end is good = absurd is
command_words (Answer May) failed end is good = good
command_words (Unless refusal next) failed end is good = good
command_words (Read file Says Refuses' name next) failed end is good = good
