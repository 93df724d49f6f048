-- What a command does: it takes its files one after another, and then answers.
use Rattle.std.specs.Prelude.{◌≡◌, ℕ, List, Option, None, Some}
use Rattle.soc_model.specs.Chips.{SocValue}
use Rattle.plan_model.specs.Plans.{LimitsValue, PlanValue}
use Rattle.soc_reader.specs.ChipForm.{SaysChip}
use Rattle.commands.specs.declared.FileKind.{FileKind}
use Rattle.commands.specs.declared.FileKind.TheVariants.{Soc, Limits, Plan}
use Rattle.commands.specs.declared.Status.{Status}
use Rattle.commands.specs.declared.Status.TheVariants.{Done}
use Rattle.commands.specs.Readings.{RefusesChip, SaysLimits, RefusesLimits, SaysAccepted, RefusesPlan}

-- A file of a name is read, where its bytes say a value (`Says bytes value`); what is done next is fixed by that value.
-- Where they say none, a line says why (`Refuses bytes line`). `Unless refusal next` goes on unless a command has a refusal of
-- its own, a line. At the end stands which statuses and texts are an answer. Words that are no command are `NoCommand`.
pub data Procedure : Type 1 where
  Read : {V : Type 0} → FileKind → (Says : List ℕ → V → Type 0) → (Refuses : List ℕ → List ℕ → Type 0) → (name : List ℕ) →
      (V → Procedure) → Procedure
  Unless : (refusal : Option (List ℕ)) → Procedure → Procedure
  Answer : (Status → List ℕ → Type 0) → Procedure
  NoCommand : Procedure

-- what words ask for: the procedure of the command that they are, where they are one
abbrev pub asked : {C : Type 0} → (C → Procedure) → Option C → Procedure
asked procedure_of None = NoCommand
asked procedure_of (Some command) = procedure_of command

-- ---- ends

-- there is no answer
abbrev pub nothing : Procedure
nothing = Answer (λ status text. ⊥)

-- the answer is this text
abbrev pub done_with : List ℕ → Procedure
done_with answer = Answer (λ status text. (status ≡ Done) × (text ≡ answer))

-- the answer is any text that may be
abbrev pub done_with_any : (List ℕ → Type 0) → Procedure
done_with_any May = Answer (λ status text. (status ≡ Done) × May text)

-- ---- files

-- a file whose bytes are taken, whatever they are
abbrev pub with_bytes : FileKind → (name : List ℕ) → Procedure
with_bytes file name = Read file (λ bytes value. bytes ≡ value) (λ bytes line. ⊥) name (λ value. nothing)

abbrev pub with_chip : (soc : List ℕ) → (SocValue → Procedure) → Procedure
with_chip soc next = Read Soc SaysChip RefusesChip soc next

abbrev pub with_limits : SocValue → (limits : List ℕ) → (LimitsValue → Procedure) → Procedure
with_limits chip limits next = Read Limits (SaysLimits chip) (RefusesLimits chip) limits next

abbrev pub with_accepted : SocValue → LimitsValue → (plan : List ℕ) → (PlanValue → Procedure) → Procedure
with_accepted chip bounds plan next = Read Plan (SaysAccepted chip bounds) (RefusesPlan chip bounds) plan next

-- a chip and limits for it
abbrev pub with_both : (soc limits : List ℕ) → (SocValue → LimitsValue → Procedure) → Procedure
with_both soc limits next = with_chip soc (λ chip. with_limits chip limits (next chip))

-- a chip, limits for it and a plan that is accepted
abbrev pub with_all : (soc limits plan : List ℕ) → (SocValue → LimitsValue → PlanValue → Procedure) → Procedure
with_all soc limits plan next = with_both soc limits (λ chip bounds. with_accepted chip bounds plan (next chip bounds))
