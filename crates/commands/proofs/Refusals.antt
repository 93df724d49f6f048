-- What the readers and the checker refuse, from the file on.
use Rattle.std.proofs.Common.{◌≡◌, ◌∙◌, ℕ, ◌≤◌, inl, inr, List, Option, Some, Result, Ok, Err, IfOk, length, refl, sym, subst, IsTrue}
use Rattle.std.specs.Global.{Vec}
use Rattle.outside.specs.declared.NoMemory.{NoMemory as MemoryFault}
use Rattle.outside.specs.Held.{Files, WhereTold}
use Rattle.soc_model.specs.declared.Soc.{Soc as SocModel}
use Rattle.soc_model.specs.Chips.{SocValue}
use Rattle.limits_text.specs.declared.read.Bounds.{Bounds}
use Rattle.commands.specs.declared.loading.PlanPlaces.{PlanPlaces}
use Rattle.plan_model.specs.Plans.{LimitsValue, PlanValue}
use Rattle.plan_model.specs.Faults.{FaultValue, IsFault, IsFaultless}
use Rattle.plan_model.specs.Views.{plan_value}
use Rattle.live_tests.specs.Placed.{IsPlaced}
use Rattle.soc_reader.specs.declared.SocFault.{SocFault}
use Rattle.soc_reader.specs.ChipForm.{SaysChip}
use Rattle.soc_reader.specs.Refusals.{Refuses}
use Rattle.limits_text.specs.declared.LimFault.{LimFault}
use Rattle.limits_text.specs.Answers.{LimitsRead, refused_line, unknown_line, shown_loop, passing_power}
use Rattle.plan_text.specs.declared.PlanTextFault.{PlanTextFault}
use Rattle.plan_text.specs.Answers.{SaysPlan, PlanRead}
use Rattle.commands.specs.declared.FileKind.TheVariants.{Soc, Limits, Plan}
use Rattle.commands.specs.declared.Status.TheVariants.{Refused}
use Rattle.commands.specs.declared.Verdict.{Verdict}
use Rattle.commands.specs.declared.Verdict.TheVariants.{Answered, CannotRead, NoMemory as OutOfMemory}
use Rattle.commands.specs.Texts.{is_line, chip_line, chip_limit_line, limits_line, unknown_test_line, loop_line, test_power_line, plan_line, fault_line}
use Rattle.commands.specs.Readings.{most_of, RefusesChip, SaysLimits, RefusesLimits, SaysAccepted, RefusesPlan}
use Rattle.commands.specs.Procedures.{nothing, with_chip, with_limits, with_accepted}
use Rattle.commands.specs.Decides.{Follows, RefusesSoc, RefusesBounds, RefusesValue, AnswersCheck, GivesText, LoadsBytes, LoadsChip, LoadsLimits, LoadsAccepted}
use Rattle.commands.proofs.FileStages.{without_bytes, refused, read_from}
use Rattle.soc_reader.specs.declared.SocFault.TheVariants as soc_fault
use Rattle.limits_text.specs.declared.LimFault.TheVariants as limits_fault
use Rattle.plan_text.specs.declared.PlanTextFault.TheVariants as plan_fault

-- ---- files whose bytes aren't there

pub chip_unread : (name : List ℕ) (held : Option Files) (before after : ℕ) (verdict : Verdict) (result : Result SocModel Verdict) → LoadsBytes Soc name held before after (Err verdict) → result ≡ Err verdict → LoadsChip name held before after result
chip_unread name held before after verdict result none is = rw is (without_bytes Soc SaysChip RefusesChip name held before after verdict none)

pub limits_unread : (chip : SocValue) (name : List ℕ) (held : Option Files) (before after : ℕ) (verdict : Verdict) (result : Result Bounds Verdict) → LoadsBytes Limits name held before after (Err verdict) → result ≡ Err verdict → LoadsLimits chip name held before after result
limits_unread chip name held before after verdict result none is = rw is (without_bytes Limits (SaysLimits chip) (RefusesLimits chip) name held before after verdict none)

pub plan_unread : (chip : SocValue) (bounds : LimitsValue) (name : List ℕ) (held : Option Files) (before after : ℕ) (verdict : Verdict) (result : Result PlanPlaces Verdict) → LoadsBytes Plan name held before after (Err verdict) → result ≡ Err verdict → LoadsAccepted chip bounds name held before after result
plan_unread chip bounds name held before after verdict result none is = rw is (without_bytes Plan (SaysAccepted chip bounds) (RefusesPlan chip bounds) name held before after verdict none)

-- ---- texts that are refused

pub soc_refused : (name bytes : List ℕ) (held : Option Files) (before after : ℕ) (fault : SocFault) (verdict : Verdict) →
    WhereTold held name (λ o. o ≡ Some bytes) → length bytes ≤ most_of Soc → Refuses bytes fault → RefusesSoc fault verdict → Follows (with_chip name (λ chip. nothing)) held before after verdict
soc_refused name bytes held before after (soc_fault.Text line) verdict told within why d =
    refused Soc SaysChip RefusesChip name (λ chip. nothing) held before after bytes (chip_line line) verdict told within (inl (line, why, refl)) d
soc_refused name bytes held before after (soc_fault.Limit which value) verdict told within why d =
    refused Soc SaysChip RefusesChip name (λ chip. nothing) held before after bytes (chip_limit_line (record { which = which; value = value })) verdict told within (inr (record { which = which; value = value }, why, refl)) d
soc_refused name bytes held before after soc_fault.NoMemory verdict told within why d = rw d tt

pub limits_refused : (chip : SocValue) (name bytes : List ℕ) (held : Option Files) (before after : ℕ) (fault : LimFault) (verdict : Verdict) →
    WhereTold held name (λ o. o ≡ Some bytes) → length bytes ≤ most_of Limits → LimitsRead bytes chip (Err fault) → RefusesBounds fault verdict → Follows (with_limits chip name (λ bounds. nothing)) held before after verdict
limits_refused chip name bytes held before after (limits_fault.Text line) verdict told within why d =
    refused Limits (SaysLimits chip) (RefusesLimits chip) name (λ bounds. nothing) held before after bytes (limits_line line) verdict told within (refused_line line, why, refl) d
limits_refused chip name bytes held before after (limits_fault.UnknownTest line) verdict told within why d =
    refused Limits (SaysLimits chip) (RefusesLimits chip) name (λ bounds. nothing) held before after bytes (unknown_test_line line) verdict told within (unknown_line line, why, refl) d
limits_refused chip name bytes held before after (limits_fault.Cycle tests) verdict told within why d =
    refused Limits (SaysLimits chip) (RefusesLimits chip) name (λ bounds. nothing) held before after bytes (loop_line tests.items) verdict told within (shown_loop tests.items, why, refl) d
limits_refused chip name bytes held before after (limits_fault.TestPower test power) verdict told within why d =
    refused Limits (SaysLimits chip) (RefusesLimits chip) name (λ bounds. nothing) held before after bytes (test_power_line test power) verdict told within (passing_power test power, why, refl) d
limits_refused chip name bytes held before after limits_fault.NoMemory verdict told within why d = rw d tt

pub plan_refused : (chip : SocValue) (bounds : LimitsValue) (name bytes : List ℕ) (held : Option Files) (before after : ℕ) (fault : PlanTextFault) (verdict : Verdict) →
    WhereTold held name (λ o. o ≡ Some bytes) → length bytes ≤ most_of Plan → PlanRead bytes (Err fault) → RefusesValue fault verdict → Follows (with_accepted chip bounds name (λ value. nothing)) held before after verdict
plan_refused chip bounds name bytes held before after (plan_fault.Text line) verdict told within why d =
    refused Plan (SaysAccepted chip bounds) (RefusesPlan chip bounds) name (λ value. nothing) held before after bytes (plan_line line) verdict told within (inl (line, why, refl)) d
plan_refused chip bounds name bytes held before after plan_fault.NoMemory verdict told within why d = rw d tt

-- a plan that is checked: it is accepted, or its fault is the refusal
pub plan_checked : (chip : SocValue) (bounds : LimitsValue) (name bytes : List ℕ) (held : Option Files) (before after : ℕ) (value : PlanValue) (result : Result PlanPlaces Verdict) →
    WhereTold held name (λ o. o ≡ Some bytes) → length bytes ≤ most_of Plan → SaysPlan bytes value → AnswersCheck chip bounds value result → LoadsAccepted chip bounds name held before after result
plan_checked chip bounds name bytes held before after value (Ok found) told within says d =
    read_from Plan (SaysAccepted chip bounds) held name bytes (plan_value found.plan) told within (subst (SaysAccepted chip bounds bytes) (sym d.0) (says, d.1))
plan_checked chip bounds name bytes held before after value (Err verdict) told within says (inl d) =
    refused Plan (SaysAccepted chip bounds) (RefusesPlan chip bounds) name (λ value. nothing) held before after bytes (fault_line d.0) verdict told within (inr (value, says, (d.0, d.1, refl))) d.2
plan_checked chip bounds name bytes held before after value (Err verdict) told within says (inr d) = rw d tt

-- the answer to a plan with a fault
pub faulty : (chip : SocValue) (bounds : LimitsValue) (value : PlanValue) (fault : FaultValue) (made : Result (Vec ℕ) MemoryFault) (verdict : Verdict) → IsFault chip bounds value fault → IfOk made (λ text. text.items ≡ fault_line fault) → IfOk made (λ text. IsTrue (is_line text.items)) →
    GivesText Refused made verdict → AnswersCheck chip bounds value (Err verdict)
faulty chip bounds value fault (Ok text) (Answered status bytes) is says line d = inl (fault, is, (d.0, d.1 ∙ says, rw d.1 line))
faulty chip bounds value fault (Ok text) (CannotRead missed) is says line d = absurd d
faulty chip bounds value fault (Ok text) OutOfMemory is says line d = inr refl
faulty chip bounds value fault (Err none) verdict is says line d = inr d

-- a plan that is handed on has no fault, and is placed
module _ (chip : SocValue) (bounds : LimitsValue) (value : PlanValue) where
  pub handed_on : (result : Result PlanPlaces Verdict) → AnswersCheck chip bounds value result → IfOk result (λ (found : PlanPlaces). IsFaultless chip bounds (plan_value found.plan))
  handed_on (Ok found) d = subst (IsFaultless chip bounds) (sym d.0) d.1
  handed_on (Err verdict) d = tt

  pub placed_on : (result : Result PlanPlaces Verdict) → AnswersCheck chip bounds value result → IfOk result (λ (found : PlanPlaces). IsPlaced chip (plan_value found.plan) found.placed)
  placed_on (Ok found) d = subst (λ (p : PlanValue). IsPlaced chip p found.placed) (sym d.0) d.2
  placed_on (Err verdict) d = tt
