-- A plan that is printed or accepted runs right, its bound is one, and it is for the chip and the limits in the held files.
use Rattle.std.proofs.Common.{◌≡◌, ℕ, ◌≤◌, ◌⊎◌, inl, inr, List, Option, None, Some, Bool, true, false, length, refl, nat_lt, MatchBool}
use Rattle.std.specs.FinMap.{get}
use Rattle.std.proofs.lemmas.Bool.{ltb-false}
use Rattle.outside.specs.Held.{Files, Appended}
use Rattle.soc_model.specs.Chips.{SocValue}
use Rattle.plan_model.specs.Plans.{LimitsValue, PlanValue}
use Rattle.plan_model.specs.Rules.{IsGood}
use Rattle.plan_model.specs.Certificates.{IsAccepted}
use Rattle.soc_reader.specs.ChipForm.{SaysChip}
use Rattle.plan_text.specs.Answers.{SaysPlan}
use Rattle.commands.specs.declared.FileKind.{FileKind}
use Rattle.commands.specs.declared.FileKind.TheVariants.{Soc, Limits, Plan}
use Rattle.commands.specs.declared.Status.{Status}
use Rattle.commands.specs.declared.Status.TheVariants.{Done, Refused, TooLong}
use Rattle.commands.specs.Texts.{too_long_line}
use Rattle.commands.specs.Readings.{most_of, IsRead, RefusesChip, SaysLimits, RefusesLimits, SaysAccepted, RefusesPlan}
use Rattle.commands.specs.Procedures.{Procedure, Unless, with_limits, with_accepted, with_both, with_all}
use Rattle.commands.specs.Answers.{Stage, Answers}
use Rattle.commands.specs.Ends.{MayAnswer, Ends}
use Rattle.commands.specs.Trusted.{TrustLaws, IsChipIn, AreLimitsIn, IsPlanIn, IsMade, IsTrustworthy}

-- ---- calls that end with Done

-- an answer of the held files was written
pub done_answer : (steps : Procedure) (held : Option Files) (sb sa kb ka : ℕ) (old new : Option (List ℕ)) (end : Status) (files : Files) → Ends (MayAnswer steps held sb sa) kb ka old end new → held ≡ Some files → end ≡ Done → (text : List ℕ) × Answers steps files Done text × Appended old text new
done_answer steps held sb sa kb ka old new end files ends is done =
    let ends' = rw done at ends in
    (ends'.0, rw is at ends'.1, ends'.2)

-- a stage that ends with Done has read its file
pub stage_done : {V : Type 0} (file : FileKind) (Says : List ℕ → V → Type 0) (Refuses : List ℕ → List ℕ → Type 0) (Next : V → Status → List ℕ → Type 0) (held : Option (List ℕ)) (text : List ℕ) → Stage file Says Refuses Next held Done text → (v : V) × IsRead file Says held v × Next v Done text
stage_done file Says Refuses Next None text stage = absurd stage
stage_done {V} file Says Refuses Next (Some bytes) text stage = go (nat_lt (most_of file) (length bytes)) refl stage where
  go : (long : Bool) → nat_lt (most_of file) (length bytes) ≡ long → MatchBool long ((Done ≡ TooLong) × (text ≡ too_long_line file)) (((v : V) × Says bytes v × Next v Done text) ⊎ ((Done ≡ Refused) × Refuses bytes text)) → (v : V) × IsRead file Says (Some bytes) v × Next v Done text
  go true e a = let wrong : Done ≡ TooLong = a.0 in absurd cc
  go false e (inl a) = (a.0, record { bytes = bytes; held_is = refl; within = ltb-false (most_of file) (length bytes) e; says = a.1 }, a.2)
  go false e (inr a) = let wrong : Done ≡ Refused = a.0 in absurd cc

-- a file whose bytes say a value says what follows of that
pub read_as_well : {V : Type 0} (file : FileKind) (A B : List ℕ → V → Type 0) (held : Option (List ℕ)) (value : V) → ((bytes : List ℕ) → A bytes value → B bytes value) → IsRead file A held value → IsRead file B held value
read_as_well file A B held value follows read = record { bytes = read.bytes; held_is = read.held_is; within = read.within; says = follows read.bytes read.says }

-- what is answered after a chip and limits was answered for those that were read
pub both_done : (files : Files) (soc limits text : List ℕ) (next : SocValue → LimitsValue → Procedure) → Answers (with_both soc limits next) files Done text →
    (chip : SocValue) × (bounds : LimitsValue) × IsRead Soc SaysChip (get files soc) chip × IsRead Limits (SaysLimits chip) (get files limits) bounds × Answers (next chip bounds) files Done text
both_done files soc limits text next answer =
    let a = stage_done Soc SaysChip RefusesChip (λ chip. Answers (with_limits chip limits (next chip)) files) (get files soc) text answer in
    let b = stage_done Limits (SaysLimits a.0) (RefusesLimits a.0) (λ bounds. Answers (next a.0 bounds) files) (get files limits) text a.2 in
    (a.0, b.0, a.1, b.1, b.2)

-- an accepted plan, of which a command writes a text that tells what it should of a good plan
pub accepted_good : TrustLaws → (files : Files) (soc limits plan : List ℕ) (Tells : SocValue → PlanValue → List ℕ → Type 0) (next : SocValue → LimitsValue → PlanValue → Procedure) →
    ((chip : SocValue) (bounds : LimitsValue) (value : PlanValue) (text : List ℕ) → IsGood chip bounds value → Answers (next chip bounds value) files Done text → Tells chip value text) →
    (text : List ℕ) (old new : Option (List ℕ)) → Answers (with_all soc limits plan next) files Done text → Appended old text new → IsTrustworthy (IsChipIn files soc) (AreLimitsIn files limits) (IsPlanIn files plan) Tells old new
accepted_good laws files soc limits plan Tells next tells text old new answer put =
    let b = both_done files soc limits text (λ chip bounds. with_accepted chip bounds plan (next chip bounds)) answer in
    let c = stage_done Plan (SaysAccepted b.0 b.1) (RefusesPlan b.0 b.1) (λ value. Answers (next b.0 b.1 value) files) (get files plan) text b.4 in
    go b.0 b.1 c.0 b.2 b.3 c.1 (tells b.0 b.1 c.0 text c.1.says.1.0 c.2)
  where
    go : (chip : SocValue) (bounds : LimitsValue) (value : PlanValue) → IsRead Soc SaysChip (get files soc) chip → IsRead Limits (SaysLimits chip) (get files limits) bounds → IsRead Plan (SaysAccepted chip bounds) (get files plan) value → Tells chip value text → IsTrustworthy (IsChipIn files soc) (AreLimitsIn files limits) (IsPlanIn files plan) Tells old new
    go chip bounds value a b c of_plan = record {
      chip = chip;
      bounds = bounds;
      value = value;
      text = text;
      chip_is = a;
      limits_are = b;
      plan_is = read_as_well Plan (SaysAccepted chip bounds) SaysPlan (get files plan) value (λ bytes says. says.0) c;
      right = λ content. laws.right chip bounds value content c.says.1.0;
      bound = laws.bound chip bounds value.bound b.says.sound.some_wire c.says.1.1;
      tells = of_plan;
      written = put;
    }

-- what is accepted, where the text needs no more than its answer
pub accepted : TrustLaws → (files : Files) (soc limits plan : List ℕ) (Tells : SocValue → PlanValue → List ℕ → Type 0) (next : SocValue → LimitsValue → PlanValue → Procedure) →
    ((chip : SocValue) (bounds : LimitsValue) (value : PlanValue) (text : List ℕ) → Answers (next chip bounds value) files Done text → Tells chip value text) →
    (text : List ℕ) (old new : Option (List ℕ)) → Answers (with_all soc limits plan next) files Done text → Appended old text new → IsTrustworthy (IsChipIn files soc) (AreLimitsIn files limits) (IsPlanIn files plan) Tells old new
accepted laws files soc limits plan Tells next tells = accepted_good laws files soc limits plan Tells next (λ chip bounds value text good. tells chip bounds value text)

-- a good plan with an accepted certificate that a command makes, of which a text is written
pub made : TrustLaws → (IsChip : SocValue → Type 0) (AreLimits : SocValue → LimitsValue → Type 0) (Tells : SocValue → PlanValue → List ℕ → Type 0) (chip : SocValue) (bounds : LimitsValue) (value : PlanValue) (text : List ℕ) (old new : Option (List ℕ)) →
    IsChip chip → AreLimits chip bounds → 1 ≤ bounds.wires → IsGood chip bounds value → IsAccepted chip bounds value.bound → Tells chip value text → Appended old text new → IsTrustworthy IsChip AreLimits IsMade Tells old new
made laws IsChip AreLimits Tells chip bounds value text old new a b wires good shown of_plan put = record {
  chip = chip;
  bounds = bounds;
  value = value;
  text = text;
  chip_is = a;
  limits_are = b;
  plan_is = tt;
  right = λ content. laws.right chip bounds value content good;
  bound = laws.bound chip bounds value.bound wires shown;
  tells = of_plan;
  written = put;
}

-- what is answered where a command has no refusal
pub not_refused : (files : Files) (refusal : Option (List ℕ)) (next : Procedure) (text : List ℕ) → Answers (Unless refusal next) files Done text → Answers next files Done text
not_refused files None next text answer = answer
not_refused files (Some line) next text answer = let wrong : Done ≡ Refused = answer.0 in absurd cc
