-- Files with test data: what is answered of them, and that they say one thing.
use Rattle.std.proofs.Common.{◌≡◌, ◌∙◌, ℕ, ◌≤◌, inl, inr, List, Option, None, Some, Result, Ok, Err, IfOk, length, refl, ap, sym, subst, IsTrue}
use Rattle.std.specs.Global.{Vec}
use Rattle.std.proofs.lemmas.Option.{same_Some}
use Rattle.outside.specs.declared.NoMemory.{NoMemory as MemoryFault}
use Rattle.outside.specs.Grammars.{last_line}
use Rattle.outside.specs.Held.{Files, WhereTold}
use Rattle.outside.specs.Words.{words_of}
use Rattle.outside.proofs.Refusals.{not_refused, refused_once}
use Rattle.soc_model.specs.Chips.{SocValue}
use Rattle.soc_model.specs.SoundChips.{IsSoundChip}
use Rattle.test_data.specs.declared.DataFault.{DataFault}
use Rattle.test_data.specs.declared.Misfit.{Misfit}
use Rattle.test_data.specs.Agreement.{Suits}
use Rattle.test_data.specs.DataAnswers.{IsReadData}
use Rattle.test_data.specs.DataWords.{EntryValue, InData, SaysData, RefusesData as RefusesText}
use Rattle.test_data.specs.Suiting.{misfit_of}
use Rattle.test_data.proofs.ReadTexts.{say_one}
use Rattle.test_data.proofs.SuitedData.{suits}
use Rattle.commands.specs.declared.FileKind.TheVariants.{Data}
use Rattle.commands.specs.declared.Status.TheVariants.{Refused}
use Rattle.commands.specs.declared.Verdict.{Verdict}
use Rattle.commands.specs.Decides.{Follows, GivesText, LoadsBytes}
use Rattle.commands.specs.Loads.{LoadsOf, DecidesAlone, LoadsFile, OfVerdict}
use Rattle.commands.specs.Procedures.{nothing}
use Rattle.commands.specs.Readings.{most_of}
use Rattle.commands.specs.Settled.{SaysOne, RefusesOne}
use Rattle.commands.specs.Texts.{is_line}
use Rattle.commands.proofs.FileStages.{line_refuses, read_from, refused, without_bytes}
use Rattle.commands.proofs.Judged.{JudgedLaws, judged_one, judged_refused_one}
use Rattle.commands.proofs.LoadStages.{any_refusal, refused_alone, stops}
use Rattle.tester_commands.specs.DataReadings.{SaysSuiting, RefusesData, with_data, RefusesFault, AnswersSuiting, LoadsSuiting, LoadsData}
use Rattle.tester_commands.specs.DataLines.{data_line, misfit_line}
use Rattle.outside.specs.declared.shelf.Loaded.TheVariants as loaded
use Rattle.test_data.specs.declared.DataFault.TheVariants as data_fault

-- ---- what shows that data doesn't suit

pub misfit_refuses : (chip : SocValue) (es : List EntryValue) (m : Misfit) (made : Result (Vec ℕ) MemoryFault) (verdict : Verdict) → misfit_of chip es ≡ Some m → IfOk made (λ text. text.items ≡ misfit_line m) → IfOk made (λ text. IsTrue (is_line text.items)) →
    GivesText Refused made verdict → AnswersSuiting chip es (Err verdict)
misfit_refuses chip es m (Ok text) verdict is says line d = inl (m, is, line_refuses (misfit_line m) (Ok text) verdict says line d)
misfit_refuses chip es m (Err fault) verdict is says line d = inr d

-- ---- a file whose bytes aren't there

pub data_unread : (chip : SocValue) (name : List ℕ) (held : Option Files) (before after : ℕ) (verdict : Verdict) (result : Result (List EntryValue) Verdict) → LoadsBytes Data name held before after (Err verdict) → result ≡ Err verdict → LoadsSuiting chip name held before after result
data_unread chip name held before after verdict result none is = rw is (without_bytes Data (SaysSuiting chip) (RefusesData chip) name held before after verdict none)

pub data_stops : {S : Type 0} (is_load : LoadsOf S) (chip : SocValue) (name : List ℕ) (first last : S) (verdict : Verdict) (result : Result (List EntryValue) Verdict) →
    LoadsFile is_load Data name first (Err verdict) last → result ≡ Err verdict → LoadsData is_load chip name first result last
data_stops is_load chip name first last verdict result d is = rw is (any_refusal is_load Data (RefusesData chip) name first last verdict d)

-- ---- a text that is refused

pub data_refused : (chip : SocValue) (name bytes : List ℕ) (held : Option Files) (before after : ℕ) (fault : DataFault) (verdict : Verdict) →
    WhereTold held name (λ o. o ≡ Some bytes) → length bytes ≤ most_of Data → IsReadData bytes (Err fault) → RefusesFault fault verdict → Follows (with_data chip name (λ es. nothing)) held before after verdict
data_refused chip name bytes held before after (data_fault.Text line) verdict told within why d =
    refused Data (SaysSuiting chip) (RefusesData chip) name (λ es. nothing) held before after bytes (data_line line) verdict told within (inl (line, why, refl)) d
data_refused chip name bytes held before after data_fault.NoMemory verdict told within why d = rw d tt

data_alone : (chip : SocValue) (bytes : List ℕ) (fault : DataFault) (verdict : Verdict) → IsReadData bytes (Err fault) → RefusesFault fault verdict → OfVerdict (DecidesAlone Data (RefusesData chip) loaded.Whole bytes) verdict
data_alone chip bytes (data_fault.Text line) verdict why d = refused_alone Data (RefusesData chip) bytes (data_line line) verdict (inl (line, why, refl)) d
data_alone chip bytes data_fault.NoMemory verdict why d = rw d (inl (refl, refl))

pub data_load_refused : {S : Type 0} (is_load : LoadsOf S) (chip : SocValue) (name bytes : List ℕ) (first last : S) (fault : DataFault) (verdict : Verdict) →
    is_load first name (most_of Data) loaded.Whole bytes last → IsReadData bytes (Err fault) → RefusesFault fault verdict → LoadsData is_load chip name first (Err verdict) last
data_load_refused is_load chip name bytes first last fault verdict load why d =
    stops is_load Data (RefusesData chip) name first loaded.Whole bytes last verdict load (data_alone chip bytes fault verdict why d)

-- ---- data that is looked at: it suits the chip, or its misfit is the refusal

pub data_looked_at : (chip : SocValue) (name bytes : List ℕ) (held : Option Files) (before after : ℕ) (es : List EntryValue) (result : Result (List EntryValue) Verdict) →
    WhereTold held name (λ o. o ≡ Some bytes) → length bytes ≤ most_of Data → SaysData bytes es → AnswersSuiting chip es result → LoadsSuiting chip name held before after result
data_looked_at chip name bytes held before after es (Ok kept) told within says d =
    read_from Data (SaysSuiting chip) held name bytes kept told within (subst (SaysSuiting chip bytes) (sym d.0) (says, d.1))
data_looked_at chip name bytes held before after es (Err verdict) told within says (inl d) =
    refused Data (SaysSuiting chip) (RefusesData chip) name (λ es. nothing) held before after bytes (misfit_line d.0) verdict told within (inr (es, says, (d.0, d.1, refl))) d.2
data_looked_at chip name bytes held before after es (Err verdict) told within says (inr d) = rw d tt

pub data_load_looked_at : {S : Type 0} (is_load : LoadsOf S) (chip : SocValue) (name bytes : List ℕ) (first last : S) (es : List EntryValue) (result : Result (List EntryValue) Verdict) →
    is_load first name (most_of Data) loaded.Whole bytes last → SaysData bytes es → AnswersSuiting chip es result → LoadsData is_load chip name first result last
data_load_looked_at is_load chip name bytes first last es (Ok kept) load says d =
    record { bytes = bytes; load = load; says = subst (SaysSuiting chip bytes) (sym d.0) (says, d.1) }
data_load_looked_at is_load chip name bytes first last es (Err verdict) load says (inl d) =
    stops is_load Data (RefusesData chip) name first loaded.Whole bytes last verdict load (refused_alone Data (RefusesData chip) bytes (misfit_line d.0) verdict (inr (es, says, (d.0, d.1, refl))) d.2)
data_load_looked_at is_load chip name bytes first last es (Err verdict) load says (inr d) =
    stops is_load Data (RefusesData chip) name first loaded.Whole bytes last verdict load (rw d (inl (refl, refl)))

-- data that is handed on suits the chip
pub kept_suits : (chip : SocValue) (es : List EntryValue) (result : Result (List EntryValue) Verdict) → IsSoundChip chip → AnswersSuiting chip es result → IfOk result (Suits chip)
kept_suits chip es (Ok kept) sound d = subst (Suits chip) (sym d.0) (suits chip es sound d.1)
kept_suits chip es (Err verdict) sound d = tt

-- ---- one answer

-- data is refused for a misfit
abbrev RefusedFor : SocValue → List EntryValue → List ℕ → Type 0
RefusedFor chip es text = (m : Misfit) × (misfit_of chip es ≡ Some m) × (text ≡ misfit_line m)

abbrev HasNoMisfit : SocValue → List EntryValue → Type 0
HasNoMisfit chip es = misfit_of chip es ≡ None

judged_data : (chip : SocValue) → JudgedLaws SaysData RefusesText (HasNoMisfit chip) (RefusedFor chip)
judged_data chip = record {
  one = λ bytes v w a b. say_one (words_of bytes) v w a b;
  not_refused = λ bytes line v says refused. not_refused InData (words_of bytes) (last_line bytes) line (v, says) refused;
  refused_once = λ bytes m n a b. refused_once InData (words_of bytes) (last_line bytes) m n a b;
  one_line = λ v t t' a b. a.2 ∙ ap misfit_line (same_Some a.0 b.0 (sym a.1 ∙ b.1)) ∙ sym b.2;
  not_both = λ bytes v t says none refused. none_some refused.0 (sym none ∙ refused.1);
}
  where
    none_some : (m : Misfit) → None ≡ Some m → ⊥
    none_some m e = cc

pub data_one : (chip : SocValue) → SaysOne (SaysSuiting chip)
data_one chip = judged_one SaysData RefusesText (HasNoMisfit chip) (RefusedFor chip) (judged_data chip)

pub data_refused_one : (chip : SocValue) → RefusesOne (SaysSuiting chip) (RefusesData chip)
data_refused_one chip = judged_refused_one SaysData RefusesText (HasNoMisfit chip) (RefusedFor chip) data_line (judged_data chip)
