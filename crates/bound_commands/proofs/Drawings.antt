-- A plan that is drawn is the one of its files, and runs right.
use Rattle.std.proofs.Common.{ℕ, List, Option}
use Rattle.std.specs.FinMap.{get}
use Rattle.outside.specs.Held.{Files, Appended}
use Rattle.soc_model.specs.Chips.{SocValue}
use Rattle.soc_model.specs.SoundChips.{IsSoundChip}
use Rattle.soc_reader.specs.ChipForm.{SaysChip}
use Rattle.soc_reader.proofs.ChipsSaid.{sound_chip}
use Rattle.plan_model.specs.Plans.{LimitsValue, PlanValue}
use Rattle.plan_model.specs.Faults.{IsFaultless}
use Rattle.plan_model.specs.SoundLimits.{IsSoundLimits}
use Rattle.plan_text.specs.Answers.{SaysPlan}
use Rattle.proof_text.specs.Answers.{SaysProof}
use Rattle.bus_proofs.specs.Laws.{AcceptedProofsAreBounds}
use Rattle.commands.specs.declared.FileKind.TheVariants.{Soc, Limits, Plan, Proof}
use Rattle.commands.specs.declared.Status.TheVariants.{Done}
use Rattle.commands.specs.Readings.{IsRead, SaysAccepted, RefusesPlan, SaysLimits}
use Rattle.commands.specs.Procedures.{Procedure, done_with, with_accepted, with_all}
use Rattle.commands.specs.Answers.{Answers}
use Rattle.commands.specs.Trusted.{TrustLaws}
use Rattle.commands.proofs.Trusted.{both_done, read_as_well, stage_done}
use Rattle.bound_commands.specs.ProofReadings.{RefusesProof, SaysAcceptedProof}
use Rattle.bound_commands.specs.Laws.{PictureLaws}
use Rattle.bound_commands.specs.Pictures.{IsDrawn, IsPictured, ShowsClaim, claim_picture}
use Rattle.bound_commands.specs.Procedures.{with_claim}

-- an accepted plan is drawn as it should be
drawn_right : TrustLaws → PictureLaws → (chip : SocValue) (bounds : LimitsValue) (value : PlanValue) → IsSoundLimits chip bounds → IsFaultless chip bounds value → IsDrawn chip bounds value
drawn_right laws pictures chip bounds value sound accepted = record {
  right = λ content. laws.right chip bounds value content accepted.0;
  bound = laws.bound chip bounds value.bound sound.some_wire accepted.1;
  drawn = pictures.drawn chip bounds value accepted.0;
  apart = pictures.apart chip bounds value accepted.0;
  used = pictures.used chip bounds value accepted.0;
  told_apart = pictures.told_apart chip bounds value accepted.0;
  self_drawn = pictures.self_drawn chip bounds value accepted.0;
  lanes = pictures.lanes chip bounds value accepted.0;
  lanes_told_apart = pictures.lanes_told_apart chip bounds value accepted.0;
  within = pictures.within chip bounds value accepted.0;
}

-- what the text shows of chip, limits and plan, where what comes behind the three files answers it
abbrev Tells : Files → (SocValue → LimitsValue → PlanValue → List ℕ → Type 0) → (SocValue → LimitsValue → PlanValue → Procedure) → Type 0
Tells files Shows next = (chip : SocValue) (bounds : LimitsValue) (value : PlanValue) (text : List ℕ) → IsSoundChip chip → IsSoundLimits chip bounds → Answers (next chip bounds value) files Done text → Shows chip bounds value text

pub pictured : TrustLaws → PictureLaws → (files : Files) (soc limits plan : List ℕ) (Shows : SocValue → LimitsValue → PlanValue → List ℕ → Type 0) (next : SocValue → LimitsValue → PlanValue → Procedure) → Tells files Shows next →
    (text : List ℕ) (old new : Option (List ℕ)) → Answers (with_all soc limits plan next) files Done text → Appended old text new → IsPictured files soc limits plan Shows old new
pictured laws pictures files soc limits plan Shows next tells text old new answer put =
    let b = both_done files soc limits text (λ chip bounds. with_accepted chip bounds plan (next chip bounds)) answer in
    let c = stage_done Plan (SaysAccepted b.0 b.1) (RefusesPlan b.0 b.1) (λ value. Answers (next b.0 b.1 value) files) (get files plan) text b.4 in
    go b.0 b.1 c.0 b.2 b.3 c.1 c.2
  where
    go : (chip : SocValue) (bounds : LimitsValue) (value : PlanValue) → IsRead Soc SaysChip (get files soc) chip → IsRead Limits (SaysLimits chip) (get files limits) bounds → IsRead Plan (SaysAccepted chip bounds) (get files plan) value → Answers (next chip bounds value) files Done text → IsPictured files soc limits plan Shows old new
    go chip bounds value a b c rest = record {
      chip = chip;
      bounds = bounds;
      value = value;
      text = text;
      chip_is = a;
      limits_are = b;
      plan_is = read_as_well Plan (SaysAccepted chip bounds) SaysPlan (get files plan) value (λ bytes says. says.0) c;
      drawn = drawn_right laws pictures chip bounds value b.says.sound c.says.1;
      shows = tells chip bounds value text (sound_chip a.bytes chip a.says) b.says.sound rest;
      written = put;
    }

-- with the claim of a proof
pub claim_shown : AcceptedProofsAreBounds → (files : Files) (proof : List ℕ) → Tells files (ShowsClaim files proof) (with_claim proof)
claim_shown bounds_are files proof chip bounds value text sound sound' answer =
    let p = stage_done Proof (SaysAcceptedProof chip bounds) (RefusesProof chip bounds) (λ claimed. Answers (done_with (claim_picture chip bounds value claimed)) files) (get files proof) text answer in
    record {
      claimed = p.0;
      proof_is = read_as_well Proof (SaysAcceptedProof chip bounds) SaysProof (get files proof) p.0 (λ bytes says. says.0) p.1;
      accepted = p.1.says.1;
      claim_bound = bounds_are chip bounds p.0 sound sound' p.1.says.1;
      text_is = p.2.1;
    }
