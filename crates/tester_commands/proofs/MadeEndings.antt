-- What may be answered of a chip, and what is written of made data.
use Rattle.std.proofs.Common.{◌≡◌, ℕ, ◌<◌, inl, inr, List, [], Option, None, Some, IfOk, IfSome, Result, length, refl, sym, subst, ◌∙◌, ap, IsTrue}
use Rattle.std.specs.Global.{Vec}
use Rattle.std.specs.FinMap.{get}
use Rattle.std.proofs.lemmas.Bool.{lt-ltb}
use Rattle.outside.specs.declared.NoMemory.{NoMemory as MemoryFault}
use Rattle.outside.specs.Held.{Files}
use Rattle.soc_model.specs.Chips.{SocValue}
use Rattle.soc_reader.specs.ChipForm.{SaysChip}
use Rattle.commands.specs.declared.TheConstants.{DATA_FILE_MOST}
use Rattle.commands.specs.declared.FileKind.TheVariants.{Soc}
use Rattle.commands.specs.declared.Status.{Status}
use Rattle.commands.specs.declared.Status.TheVariants.{Done, Refused, NoMemory}
use Rattle.commands.specs.declared.Verdict.{Verdict}
use Rattle.commands.specs.Answers.{Answers}
use Rattle.commands.specs.Decides.{GivesText}
use Rattle.commands.specs.Ends.{MayUnless, Writes, WritesUnless}
use Rattle.commands.specs.Loads.{LoadsOf, IsLoaded, LoadsUnless, LoadsDecide}
use Rattle.commands.specs.Procedures.{Procedure, Unless, done_with, with_chip}
use Rattle.commands.specs.Readings.{IsRead, RefusesChip}
use Rattle.commands.specs.Texts.{is_line}
use Rattle.commands.proofs.FileStages.{go_on, line_refuses}
use Rattle.commands.proofs.UnlessRefused.{refusal_written}
use Rattle.tester_commands.specs.MadeText.{long_data_line, long_data_refusal}

-- ---- what may be answered of a chip, and loaded

pub chip_unless : (soc : List ℕ) (next : SocValue → Procedure) (held : Option Files) (chip : SocValue) (refusal : Option (List ℕ)) (text : List ℕ) → IfSome held (λ files. IsRead Soc SaysChip (get files soc) chip) →
    next chip ≡ Unless refusal (done_with text) → MayUnless (with_chip soc next) held refusal text
chip_unless soc next None chip None text read is = tt
chip_unless soc next None chip (Some line) text read is = tt
chip_unless soc next (Some files) chip None text read is =
    go_on Soc SaysChip RefusesChip (λ chip. Answers (next chip) files) (get files soc) chip Done text read (subst (λ steps. Answers steps files Done text) (sym is) (refl, refl))
chip_unless soc next (Some files) chip (Some line) text read is =
    go_on Soc SaysChip RefusesChip (λ chip. Answers (next chip) files) (get files soc) chip Refused line read (subst (λ steps. Answers steps files Refused line) (sym is) (refl, refl))

pub chip_loaded : {S : Type 0} (is_load : LoadsOf S) (soc : List ℕ) (next : SocValue → Procedure) (chip : SocValue) (first last : S) (refusal : Option (List ℕ)) (text : List ℕ) → IsLoaded is_load Soc SaysChip soc chip first last →
    next chip ≡ Unless refusal (done_with text) → LoadsUnless is_load (with_chip soc next) first refusal text last
chip_loaded is_load soc next chip first last None text load is = (
  inr (chip, last, load, subst (λ steps. LoadsDecide is_load steps last Done text last) (sym is) (refl, inr (refl, refl))),
  inr (chip, last, load, subst (λ steps. LoadsDecide is_load steps last NoMemory [] last) (sym is) (refl, inl (refl, refl))),
)
chip_loaded is_load soc next chip first last (Some line) text load is = (
  inr (chip, last, load, subst (λ steps. LoadsDecide is_load steps last Refused line last) (sym is) (refl, inr (refl, refl))),
  inr (chip, last, load, subst (λ steps. LoadsDecide is_load steps last NoMemory [] last) (sym is) (refl, inl (refl, refl))),
)

-- ---- what is written of made data

refused_long : (text : List ℕ) → DATA_FILE_MOST < length text → long_data_refusal text ≡ Some (long_data_line (length text))
refused_long text long = rw (lt-ltb DATA_FILE_MOST (length text) long) refl

pub long_written : (text : List ℕ) (size : ℕ) (made : Result (Vec ℕ) MemoryFault) (verdict : Verdict) (kb ka : ℕ) (old new : Option (List ℕ)) (end : Status) → size ≡ length text → DATA_FILE_MOST < size →
    IfOk made (λ line. line.items ≡ long_data_line size) → IfOk made (λ line. IsTrue (is_line line.items)) → GivesText Refused made verdict → Writes verdict kb ka old end new → WritesUnless (long_data_refusal text) text kb ka old end new
long_written text size made verdict kb ka old new end is long line one given put =
    let refusal : long_data_refusal text ≡ Some (long_data_line size) = refused_long text (subst (λ n. DATA_FILE_MOST < n) is long) ∙ ap (λ n. Some (long_data_line n)) (sym is) in
    subst (λ r. WritesUnless r text kb ka old end new) (sym refusal) (refusal_written (long_data_line size) text verdict kb ka old new end (line_refuses (long_data_line size) made verdict line one given) put)
