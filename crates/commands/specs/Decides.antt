-- How a command ends, decided before anything is written.
use Rattle.std.specs.Prelude.{◌≡◌, ℕ, ◌≤◌, ◌⊎◌, length, List, Option, None, Some, Result, Ok, Err, IfSome, IsTrue}
use Rattle.std.specs.FinMap.{get}
use Rattle.std.specs.Global.{Vec}
use Rattle.outside.specs.declared.NoMemory.{NoMemory as MemoryFault}
use Rattle.outside.specs.Held.{Files, Rose, IsMissing, WhereTold}
use Rattle.soc_model.specs.declared.Soc.{Soc as SocModel}
use Rattle.soc_model.specs.Chips.{SocValue, soc_value}
use Rattle.plan_model.specs.Plans.{LimitsValue, PlanValue}
use Rattle.live_tests.specs.Placed.{IsPlaced}
use Rattle.live_tests.specs.Problems.{ProblemValue}
use Rattle.plan_model.specs.Faults.{FaultValue, IsFault, IsFaultless}
use Rattle.plan_model.specs.Views.{limits_value, plan_value}
use Rattle.soc_reader.specs.declared.SocFault.{SocFault}
use Rattle.soc_reader.specs.declared.SocFault.TheVariants as soc_fault
use Rattle.soc_reader.specs.ChipForm.{SaysChip}
use Rattle.limits_text.specs.declared.LimFault.{LimFault}
use Rattle.limits_text.specs.declared.LimFault.TheVariants as limits_fault
use Rattle.limits_text.specs.declared.read.Bounds.{Bounds}
use Rattle.plan_text.specs.declared.PlanTextFault.{PlanTextFault}
use Rattle.plan_text.specs.declared.PlanTextFault.TheVariants as plan_fault
use Rattle.commands.specs.declared.FileKind.{FileKind}
use Rattle.commands.specs.declared.FileKind.TheVariants.{Soc, Limits, Plan}
use Rattle.commands.specs.declared.Status.{Status}
use Rattle.commands.specs.declared.Status.TheVariants.{Done, Refused, BadWords, ReadFault, WriteFault, NoMemory}
use Rattle.commands.specs.declared.Verdict.{Verdict}
use Rattle.commands.specs.declared.Verdict.TheVariants.{Answered, CannotRead, NoMemory as OutOfMemory}
use Rattle.commands.specs.declared.loading.PlanPlaces.{PlanPlaces}
use Rattle.commands.specs.AcceptedPlans.{AcceptedValue}
use Rattle.commands.specs.Texts.{is_line, bad_words_line, chip_line, chip_limit_line, limits_line, unknown_test_line, loop_line, test_power_line, plan_line, fault_line}
use Rattle.commands.specs.Readings.{most_of, IsRead, SaysLimits, SaysAccepted}
use Rattle.commands.specs.Procedures.{Procedure, Read, Unless, Answer, NoCommand, nothing, with_bytes, with_chip, with_limits, with_accepted, with_both, with_all}
use Rattle.commands.specs.Answers.{Answers}

-- a status of a command that is decided before anything is written, and its text: one line, but for an answer
abbrev pub Suits : Status → List ℕ → Type 0
Suits Done text = Unit {0}
Suits BadWords text = ⊥
Suits ReadFault text = ⊥
Suits WriteFault text = ⊥
Suits NoMemory text = ⊥
Suits status text = IsTrue (is_line text)

-- the load of that name had a fault, or the shelf tells what it holds and doesn't hold it
abbrev pub MayFail : Option Files → ℕ → ℕ → List ℕ → Type 0
MayFail held before after name = Rose before after ⊎ IsMissing held name

-- The file can't be read, and the files before it are read and taken.
abbrev pub IsUnread : Procedure → Option Files → ℕ → ℕ → FileKind → Type 0
IsUnread NoCommand held before after missed = ⊥
IsUnread (Answer May) held before after missed = ⊥
IsUnread (Unless None next) held before after missed = IsUnread next held before after missed
IsUnread (Unless (Some line) next) held before after missed = ⊥
IsUnread (Read {V} file Says Refuses name next) held before after missed =
    ((missed ≡ file) × MayFail held before after name)
    ⊎ ((value : V) × IfSome held (λ files. IsRead file Says (get files name) value) × IsUnread (next value) held before after missed)

-- ---- verdicts

-- a verdict gives a text that is allowed, names a file that is unread, or wants memory
abbrev pub Decided : (Status → List ℕ → Type 0) → (FileKind → Type 0) → Verdict → Type 0
Decided May Unread (Answered status text) = Suits status text.items × May status text.items
Decided May Unread (CannotRead file) = Unread file
Decided May Unread OutOfMemory = Unit {0}

-- How a procedure ends. Where the shelf tells nothing, any text is allowed.
abbrev pub Follows : Procedure → Option Files → ℕ → ℕ → Verdict → Type 0
Follows steps held before after verdict =
    Decided (λ status text. IfSome held (λ files. Answers steps files status text)) (IsUnread steps held before after) verdict

-- a verdict has this status and text, or wants memory
abbrev pub Gives : Status → List ℕ → Verdict → Type 0
Gives status text (Answered given bytes) = (given ≡ status) × (bytes.items ≡ text)
Gives status text (CannotRead file) = ⊥
Gives status text OutOfMemory = Unit {0}

-- a verdict has this status and the text, or wants memory where there was none for the text
abbrev pub GivesText : Status → Result (Vec ℕ) MemoryFault → Verdict → Type 0
GivesText status (Ok text) verdict = Gives status text.items verdict
GivesText status (Err fault) verdict = verdict ≡ OutOfMemory

-- how a call is decided; words that are no command have their line
abbrev pub Decides : Procedure → Option Files → ℕ → ℕ → Verdict → Type 0
Decides NoCommand held before after verdict = Gives BadWords bad_words_line verdict
Decides steps held before after verdict = Follows steps held before after verdict

-- ---- files that are loaded

-- the bytes of a file within its limit, where the shelf tells, or a verdict without them
abbrev pub LoadsBytes : FileKind → (name : List ℕ) → Option Files → ℕ → ℕ → Result (Vec ℕ) Verdict → Type 0
LoadsBytes file name held before after (Ok bytes) = WhereTold held name (λ o. o ≡ Some bytes.items) × (length bytes.items ≤ most_of file)
LoadsBytes file name held before after (Err verdict) = Follows (with_bytes file name) held before after verdict

-- a chip that was read from what the shelf tells, or a verdict without one
abbrev pub LoadsChip : (soc : List ℕ) → Option Files → ℕ → ℕ → Result SocModel Verdict → Type 0
LoadsChip soc held before after (Ok chip) = IfSome held (λ files. IsRead Soc SaysChip (get files soc) (soc_value chip))
LoadsChip soc held before after (Err verdict) = Follows (with_chip soc (λ chip. nothing)) held before after verdict

-- and so limits for a chip
abbrev pub LoadsLimits : SocValue → (limits : List ℕ) → Option Files → ℕ → ℕ → Result Bounds Verdict → Type 0
LoadsLimits chip limits held before after (Ok bounds) =
    IfSome held (λ files. IsRead Limits (SaysLimits chip) (get files limits) (limits_value bounds.limits))
LoadsLimits chip limits held before after (Err verdict) = Follows (with_limits chip limits (λ bounds. nothing)) held before after verdict

-- and so a plan that is accepted for a chip under limits
abbrev pub LoadsAccepted : SocValue → LimitsValue → (plan : List ℕ) → Option Files → ℕ → ℕ → Result PlanPlaces Verdict → Type 0
LoadsAccepted chip bounds plan held before after (Ok found) =
    IfSome held (λ files. IsRead Plan (SaysAccepted chip bounds) (get files plan) (plan_value found.plan))
LoadsAccepted chip bounds plan held before after (Err verdict) =
    Follows (with_accepted chip bounds plan (λ value. nothing)) held before after verdict

-- a chip and limits for it, both read from these files
pub record BothRead (files : Files) (soc limits : List ℕ) (both : ProblemValue) : Type 0 where
  pub chip : IsRead Soc SaysChip (get files soc) both.soc
  pub bounds : IsRead Limits (SaysLimits both.soc) (get files limits) both.limits

-- both, or a verdict without them
abbrev pub LoadsBoth : (soc limits : List ℕ) → Option Files → ℕ → ℕ → Result ProblemValue Verdict → Type 0
LoadsBoth soc limits held before after (Ok both) = IfSome held (λ files. BothRead files soc limits both)
LoadsBoth soc limits held before after (Err verdict) = Follows (with_both soc limits (λ chip bounds. nothing)) held before after verdict

-- a chip, limits for it and a plan that is accepted, all read from these files
pub record AreRead (files : Files) (soc limits plan : List ℕ) (all : AcceptedValue) : Type 0 where
  pub chip : IsRead Soc SaysChip (get files soc) all.soc
  pub bounds : IsRead Limits (SaysLimits all.soc) (get files limits) all.limits
  pub value : IsRead Plan (SaysAccepted all.soc all.limits) (get files plan) all.plan

-- all three, or a verdict without them
abbrev pub LoadsAll : (soc limits plan : List ℕ) → Option Files → ℕ → ℕ → Result AcceptedValue Verdict → Type 0
LoadsAll soc limits plan held before after (Ok all) = IfSome held (λ files. AreRead files soc limits plan all)
LoadsAll soc limits plan held before after (Err verdict) =
    Follows (with_all soc limits plan (λ chip bounds value. nothing)) held before after verdict

-- ---- a file of a command's own

-- The verdict on the bytes of such a file: the answer to what they say, or the line that refuses them, or out of memory.
abbrev pub AnswersBytes : {V : Type 0} → (Says : List ℕ → V → Type 0) → (Refused' : List ℕ → List ℕ → Type 0) → (answer : V → List ℕ) →
    List ℕ → Verdict → Type 0
AnswersBytes {V} Says Refused' answer bytes (Answered status text) =
    ((status ≡ Done) × ((value : V) × Says bytes value × (text.items ≡ answer value)))
    ⊎ ((status ≡ Refused) × Refused' bytes text.items × IsTrue (is_line text.items))
AnswersBytes Says Refused' answer bytes (CannotRead file) = ⊥
AnswersBytes Says Refused' answer bytes OutOfMemory = Unit {0}

-- ---- texts that aren't taken

-- a verdict is this line, or wants memory
abbrev pub Refuses : List ℕ → Verdict → Type 0
Refuses line (Answered given bytes) = (given ≡ Refused) × (bytes.items ≡ line) × IsTrue (is_line bytes.items)
Refuses line (CannotRead file) = ⊥
Refuses line OutOfMemory = Unit {0}

-- a verdict is the line that refuses, or else any text that is allowed, or wants memory
abbrev pub GivesAny : Option (List ℕ) → (List ℕ → Type 0) → Verdict → Type 0
GivesAny None May (Answered given bytes) = (given ≡ Done) × May bytes.items
GivesAny None May (CannotRead file) = ⊥
GivesAny None May OutOfMemory = Unit {0}
GivesAny (Some line) May verdict = Refuses line verdict

-- the verdict on a chip's text
abbrev pub RefusesSoc : SocFault → Verdict → Type 0
RefusesSoc (soc_fault.Text line) verdict = Refuses (chip_line line) verdict
RefusesSoc (soc_fault.Limit which value) verdict = Refuses (chip_limit_line (record { which = which; value = value })) verdict
RefusesSoc soc_fault.NoMemory verdict = verdict ≡ OutOfMemory

-- on a text of limits
abbrev pub RefusesBounds : LimFault → Verdict → Type 0
RefusesBounds (limits_fault.Text line) verdict = Refuses (limits_line line) verdict
RefusesBounds (limits_fault.UnknownTest line) verdict = Refuses (unknown_test_line line) verdict
RefusesBounds (limits_fault.Cycle tests) verdict = Refuses (loop_line tests.items) verdict
RefusesBounds (limits_fault.TestPower test power) verdict = Refuses (test_power_line test power) verdict
RefusesBounds limits_fault.NoMemory verdict = verdict ≡ OutOfMemory

-- and on a text of a plan
abbrev pub RefusesValue : PlanTextFault → Verdict → Type 0
RefusesValue (plan_fault.Text line) verdict = Refuses (plan_line line) verdict
RefusesValue plan_fault.NoMemory verdict = verdict ≡ OutOfMemory

-- the plan, placed, where it is accepted, or the answer to its fault
abbrev pub AnswersCheck : SocValue → LimitsValue → PlanValue → Result PlanPlaces Verdict → Type 0
AnswersCheck chip bounds value (Ok found) =
    (plan_value found.plan ≡ value) × IsFaultless chip bounds value × IsPlaced chip value found.placed
AnswersCheck chip bounds value (Err verdict) =
    ((fault : FaultValue) × IsFault chip bounds value fault × Refuses (fault_line fault) verdict) ⊎ (verdict ≡ OutOfMemory)
