-- The lines that are written of a proof.
use Rattle.std.specs.Prelude.{ℕ, ◌++◌, List, codes, decimal}
use Rattle.bus_proofs.specs.declared.ProofFault.{ProofFault}
use Rattle.bus_proofs.specs.declared.ProofFault.TheVariants.{BadList, BadNode, Less}
use Rattle.plan_model.specs.Proofs.{ProofValue}
use Rattle.commands.specs.Texts.{two_numbers}

-- a proof that is accepted: the cycles that no good plan goes below
abbrev pub bound_line : ProofValue → List ℕ
bound_line proof = codes "bound " ++ decimal proof.claimed ++ codes "\n"

-- refused at a line of its text
abbrev pub proof_line : ℕ → List ℕ
proof_line line = codes "refused proof line " ++ decimal line ++ codes "\n"

-- refused for a fault: the place of the list or of the node, and what a leaf shows where it doesn't hold
abbrev pub proof_fault_line : ProofFault → List ℕ
proof_fault_line (BadList place) = codes "refused proof list " ++ decimal place ++ codes "\n"
proof_fault_line (BadNode place) = codes "refused proof node " ++ decimal place ++ codes "\n"
proof_fault_line (Less place claimed shown) =
    codes "refused proof less " ++ decimal place ++ codes " " ++ two_numbers claimed shown ++ codes "\n"
