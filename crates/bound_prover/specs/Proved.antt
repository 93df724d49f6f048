-- What is printed for a plan.
use Rattle.std.specs.Prelude.{◌≡◌, ℕ, ◌≤◌, List, [], ◌∷◌, length}
use Rattle.soc_model.specs.Chips.{SocValue}
use Rattle.plan_model.specs.Plans.{LimitsValue}
use Rattle.plan_model.specs.Proofs.{OfSum, OfLeaf, ProofValue}
use Rattle.proof_text.specs.ProofLines.{proof_text}
use Rattle.plan_model.specs.Sayable.{MayBeSaid}
use Rattle.proof_text.specs.Grammar.{IsInRange}
use Rattle.proof_text.specs.Answers.{SaysProof}
use Rattle.bus_proofs.specs.Bounds.{IsAccepted}
use Rattle.commands.specs.declared.TheConstants.{FILE_MOST}

-- the proof that claims nothing: no list, and one leaf at the root
abbrev pub no_claim : ProofValue
no_claim = record { claimed = 0; lists = []; nodes = OfLeaf (OfSum (record { wire = 1; ranks = []; lists = [] })) ∷ [] }

-- a proof that a text may say, with its numbers in the range of the grammar
pub record IsReadable (value : ProofValue) : Type 0 where
  pub said : MayBeSaid value
  pub range : IsInRange value

-- its text, no longer than a file may be, says it again
pub record IsPrinted (value : ProofValue) (text : List ℕ) : Type 0 where
  pub text_is : text ≡ proof_text value
  pub short : length text ≤ FILE_MOST
  pub said : SaysProof text value

-- A proof for a plan of `cycles` cycles: it is accepted, claims no more cycles than these, and has at most `nodes` nodes. Where the
-- plan has no cycles it is the one that claims nothing.
pub record IsProved (soc : SocValue) (limits : LimitsValue) (cycles nodes : ℕ) (value : ProofValue) : Type 0 where
  pub accepted : IsAccepted soc limits value
  pub at_most : value.claimed ≤ cycles
  pub few : length value.nodes ≤ nodes
  pub nothing : cycles ≡ 0 → value ≡ no_claim

-- the text of such a proof
abbrev pub IsProofText : SocValue → LimitsValue → (cycles nodes : ℕ) → List ℕ → Type 0
IsProofText soc limits cycles nodes text = (value : ProofValue) × IsProved soc limits cycles nodes value × IsPrinted value text
