-- What `picture` draws, and what it promises of that.
use Rattle.std.specs.Prelude.{◌≡◌, ℕ, List, [], Option}
use Rattle.std.specs.FinMap.{get}
use Rattle.outside.specs.Held.{Files, Appended}
use Rattle.soc_model.specs.Chips.{SocValue}
use Rattle.plan_model.specs.Plans.{LimitsValue, PlanValue, planned}
use Rattle.plan_model.specs.Runs.{Content}
use Rattle.plan_model.specs.Right.{IsRight}
use Rattle.plan_model.specs.Rules.{IsBound}
use Rattle.live_tests.specs.Placed.{placed_tests}
use Rattle.picture.specs.Laws.{AreApart, AreDrawn, AreLaned, AreToldApart, ShowsUse, StaysWithin}
use Rattle.picture.specs.PictureText.{picture_of_claim, picture_text, plan_steps, self_tests}
use Rattle.picture.specs.Rectangles.{bus_wires, laned, wired}
use Rattle.plan_model.specs.Proofs.{ProofValue}
use Rattle.proof_text.specs.Answers.{SaysProof}
use Rattle.bus_proofs.specs.Bounds.{IsAccepted}
use Rattle.commands.specs.declared.FileKind.TheVariants.{Proof}
use Rattle.commands.specs.Readings.{IsRead}
use Rattle.commands.specs.Trusted.{IsChipIn, AreLimitsIn, IsPlanIn}

-- the picture of a plan with the claim of a proof in the place of its own bound
abbrev pub claim_picture : SocValue → LimitsValue → PlanValue → ProofValue → List ℕ
claim_picture chip bounds value proof = picture_of_claim chip bounds value proof.claimed

-- What a plan is that is drawn: it runs right for every content, and no good plan of its chip under its limits ends before its
-- bound. Each test over the wires has its rectangle, and each self test, in a lane. A cycle of a wire has a rectangle exactly
-- where the run uses it, no two rectangles have a cycle of a wire or of a lane in common, and no two neighbours have one fill. No step
-- of power is above the limit.
pub record IsDrawn (chip : SocValue) (bounds : LimitsValue) (value : PlanValue) : Type 0 where
  pub right : (content : Content) → IsRight chip bounds value content
  pub bound : IsBound chip bounds value.bound.cycles
  pub drawn : AreDrawn (wired (bus_wires value) (placed_tests chip value)) (placed_tests chip value)
  pub apart : AreApart (wired (bus_wires value) (placed_tests chip value))
  pub used : ShowsUse (wired (bus_wires value) (placed_tests chip value)) (planned chip value)
  pub told_apart : AreToldApart (wired (bus_wires value) (placed_tests chip value))
  pub self_drawn : AreLaned (laned [] (self_tests chip value)) (placed_tests chip value)
  pub lanes : AreApart (laned [] (self_tests chip value))
  pub lanes_told_apart : AreToldApart (laned [] (self_tests chip value))
  pub within : StaysWithin bounds (plan_steps chip bounds value)

-- The chip, the limits and the plan were read from the held files, and a picture was written that shows of them what it should.
pub record IsPictured (files : Files) (soc limits plan : List ℕ) (Shows : SocValue → LimitsValue → PlanValue → List ℕ → Type 0)
    (old new : Option (List ℕ)) : Type 0 where
  pub chip : SocValue
  pub bounds : LimitsValue
  pub value : PlanValue
  pub text : List ℕ
  pub chip_is : IsChipIn files soc chip
  pub limits_are : AreLimitsIn files limits chip bounds
  pub plan_is : IsPlanIn files plan value
  pub drawn : IsDrawn chip bounds value
  pub shows : Shows chip bounds value text
  pub written : Appended old text new

-- the plan with its own bound
abbrev pub ShowsPlan : SocValue → LimitsValue → PlanValue → List ℕ → Type 0
ShowsPlan chip bounds value text = text ≡ picture_text chip bounds value

-- The plan with the claim of a proof that was read from a held file: it is accepted, and no good plan of the chip under the limits has
-- fewer cycles than it claims.
pub record ShowsClaim (files : Files) (proof : List ℕ) (chip : SocValue) (bounds : LimitsValue) (value : PlanValue) (text : List ℕ) :
    Type 0 where
  pub claimed : ProofValue
  pub proof_is : IsRead Proof SaysProof (get files proof) claimed
  pub accepted : IsAccepted chip bounds claimed
  pub claim_bound : IsBound chip bounds claimed.claimed
  pub text_is : text ≡ claim_picture chip bounds value claimed
