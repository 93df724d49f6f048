-- What the bound of a proof is that is printed.
use Rattle.std.specs.Prelude.{ℕ, List, Option}
use Rattle.std.specs.FinMap.{get}
use Rattle.outside.specs.Held.{Files, Appended}
use Rattle.soc_model.specs.Chips.{SocValue}
use Rattle.plan_model.specs.Plans.{LimitsValue}
use Rattle.plan_model.specs.Rules.{IsBound}
use Rattle.plan_model.specs.Proofs.{ProofValue}
use Rattle.proof_text.specs.Answers.{SaysProof}
use Rattle.bus_proofs.specs.Bounds.{IsAccepted}
use Rattle.commands.specs.declared.FileKind.TheVariants.{Proof}
use Rattle.commands.specs.Readings.{IsRead}
use Rattle.commands.specs.Trusted.{IsChipIn, AreLimitsIn}
use Rattle.bound_commands.specs.ProofTexts.{bound_line}

-- The chip, the limits and the proof were read from the held files; the proof is accepted; no good plan of the chip under the
-- limits has fewer cycles than the proof claims; and that claim was written.
pub record IsProvedBound (files : Files) (soc limits proof : List ℕ) (old new : Option (List ℕ)) : Type 0 where
  pub chip : SocValue
  pub bounds : LimitsValue
  pub value : ProofValue
  pub chip_is : IsChipIn files soc chip
  pub limits_are : AreLimitsIn files limits chip bounds
  pub proof_is : IsRead Proof SaysProof (get files proof) value
  pub accepted : IsAccepted chip bounds value
  pub bound : IsBound chip bounds value.claimed
  pub written : Appended old (bound_line value) new
