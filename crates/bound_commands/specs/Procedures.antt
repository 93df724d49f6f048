-- What each command does: it takes its files one after another, and then answers.
use Rattle.std.specs.Prelude.{ℕ, List}
use Rattle.soc_model.specs.Chips.{SocValue}
use Rattle.plan_model.specs.Plans.{LimitsValue, PlanValue}
use Rattle.picture.specs.PictureText.{picture_text}
use Rattle.commands.specs.declared.FileKind.TheVariants.{Tree, Proof}
use Rattle.commands.specs.Procedures.{Procedure, Read, done_with, with_all, with_both}
use Rattle.bound_commands.specs.Pictures.{claim_picture}
use Rattle.bound_commands.specs.ProofReadings.{SaysAcceptedProof, RefusesProof}
use Rattle.bound_commands.specs.ProofTexts.{bound_line as proof_bound_line}
use Rattle.bound_commands.specs.TreeReadings.{SaysAcceptedTree, RefusesTree}
use Rattle.bound_commands.specs.TreeTexts.{bound_line as tree_bound_line}

-- the bound of a width tree that is accepted for a chip under limits
abbrev pub with_tree : (tree : List ℕ) → SocValue → LimitsValue → Procedure
with_tree tree chip bounds =
    Read Tree (SaysAcceptedTree chip bounds) (RefusesTree chip bounds) tree (λ value. done_with (tree_bound_line value))

-- the bound of a proof that is accepted for a chip under limits
abbrev pub with_proof : (proof : List ℕ) → SocValue → LimitsValue → Procedure
with_proof proof chip bounds =
    Read Proof (SaysAcceptedProof chip bounds) (RefusesProof chip bounds) proof (λ value. done_with (proof_bound_line value))

-- the proof is read behind the plan, and refused as `bound` refuses it
abbrev pub with_claim : (proof : List ℕ) → SocValue → LimitsValue → PlanValue → Procedure
with_claim proof chip bounds value = Read Proof (SaysAcceptedProof chip bounds) (RefusesProof chip bounds) proof
    (λ claimed. done_with (claim_picture chip bounds value claimed))

abbrev pub tree_procedure : (soc limits tree : List ℕ) → Procedure
tree_procedure soc limits tree = with_both soc limits (with_tree tree)

abbrev pub bound_procedure : (soc limits proof : List ℕ) → Procedure
bound_procedure soc limits proof = with_both soc limits (with_proof proof)

-- the picture of a plan that is accepted, and that with the claim of a proof
abbrev pub picture_procedure : (soc limits plan : List ℕ) → Procedure
picture_procedure soc limits plan = with_all soc limits plan (λ chip bounds value. done_with (picture_text chip bounds value))

abbrev pub picture_with_proof_procedure : (soc limits plan proof : List ℕ) → Procedure
picture_with_proof_procedure soc limits plan proof = with_all soc limits plan (with_claim proof)
