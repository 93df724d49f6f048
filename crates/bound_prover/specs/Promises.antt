-- What is promised of the proof that is written.
use Rattle.std.specs.Prelude.{◌≡◌, ℕ, ◌≤◌, List, Option, length}
use Rattle.outside.specs.Held.{Files, Appended}
use Rattle.soc_model.specs.Chips.{SocValue}
use Rattle.plan_model.specs.Plans.{LimitsValue, PlanValue}
use Rattle.plan_model.specs.Rules.{IsGood, IsBound}
use Rattle.plan_model.specs.Proofs.{ProofValue}
use Rattle.proof_text.specs.ProofLines.{proof_text}
use Rattle.proof_text.specs.Answers.{SaysProof}
use Rattle.bus_proofs.specs.Bounds.{IsAccepted}
use Rattle.commands.specs.declared.TheConstants.{FILE_MOST}
use Rattle.commands.specs.Trusted.{IsChipIn, AreLimitsIn, IsPlanIn}

-- For the chip and the limits in the files, the proof that is written is accepted, and no good plan has fewer cycles than it
-- claims. It claims at most the cycles of the good plan in its file; where it claims as many, no good plan has fewer than that one.
-- It has at most `nodes` nodes. What is written is no longer than a file may be, and reads back as that proof.
pub record IsProvedFor (soc limits plan : List ℕ) (nodes : ℕ) (files : Files) (old new : Option (List ℕ)) : Type 0 where
  pub chip : SocValue
  pub bounds : LimitsValue
  pub given : PlanValue
  pub value : ProofValue
  pub chip_is : IsChipIn files soc chip
  pub limits_are : AreLimitsIn files limits chip bounds
  pub given_is : IsPlanIn files plan given
  pub good : IsGood chip bounds given
  pub accepted : IsAccepted chip bounds value
  pub bound : IsBound chip bounds value.claimed
  pub at_most : value.claimed ≤ given.cycles
  pub shortest : value.claimed ≡ given.cycles → IsBound chip bounds given.cycles
  pub few : length value.nodes ≤ nodes
  pub written : Appended old (proof_text value) new
  pub short : length (proof_text value) ≤ FILE_MOST
  pub reads_back : SaysProof (proof_text value) value
