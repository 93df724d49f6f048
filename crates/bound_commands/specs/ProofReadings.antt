-- What the bytes of a file with a proof say, and the lines that refuse them.
use Rattle.std.specs.Prelude.{◌≡◌, ℕ, ◌⊎◌, List}
use Rattle.soc_model.specs.Chips.{SocValue}
use Rattle.plan_model.specs.Plans.{LimitsValue}
use Rattle.bus_proofs.specs.declared.ProofFault.{ProofFault}
use Rattle.plan_model.specs.Proofs.{ProofValue}
use Rattle.proof_text.specs.Answers.{SaysProof, RefusesText}
use Rattle.bus_proofs.specs.Bounds.{IsAccepted, IsProofFault}
use Rattle.bound_commands.specs.ProofTexts.{proof_line, proof_fault_line}

-- the text says the proof, which is accepted for the chip under the limits
abbrev pub SaysAcceptedProof : SocValue → LimitsValue → List ℕ → ProofValue → Type 0
SaysAcceptedProof chip bounds bytes value = SaysProof bytes value × IsAccepted chip bounds value

-- the proof's text is refused at a line, or says a proof with a fault
abbrev pub RefusesProof : SocValue → LimitsValue → List ℕ → List ℕ → Type 0
RefusesProof chip bounds bytes text =
    ((line : ℕ) × RefusesText bytes line × (text ≡ proof_line line))
    ⊎ ((value : ProofValue) × SaysProof bytes value × ((fault : ProofFault) × IsProofFault chip bounds value fault
    × (text ≡ proof_fault_line fault)))
