-- What an accepted proof tells of the plans of a chip.
use Rattle.std.specs.Prelude.{◌≡◌, ◌<◌, ◌≤◌, List, ℕ}
use Rattle.soc_model.specs.Chips.{SocValue}
use Rattle.soc_model.specs.SoundChips.{IsSoundChip}
use Rattle.plan_model.specs.Plans.{LimitsValue, PlanValue}
use Rattle.plan_model.specs.Rules.{IsGood, IsBound}
use Rattle.plan_model.specs.SoundLimits.{IsSoundLimits}
use Rattle.bus_proofs.specs.declared.ProofFault.{ProofFault}
use Rattle.bus_proofs.specs.declared.ProofFault.TheVariants.{Less}
use Rattle.plan_model.specs.Proofs.{ListValue, CaseTree, nodes_of, ProofValue}
use Rattle.leaf_bounds.specs.Cases.{Case}
use Rattle.bus_proofs.specs.Cases.{cases_of}
use Rattle.bus_proofs.specs.Rankings.{IsRanking, IsInCase}
use Rattle.leaf_bounds.specs.Lists.{AreKept}
use Rattle.bus_proofs.specs.Bounds.{AreEnough, IsAccepted, IsProofFault}

-- the buses of every plan have a ranking
abbrev pub PlansHaveRankings : Type 0
PlansHaveRankings = (plan : PlanValue) → (ranking : List ℕ) × IsRanking plan ranking

-- where a tree of a case is accepted, no good plan of fewer than the claimed cycles is in the case, by any ranking
abbrev pub AcceptedCasesHaveNoPlan : Type 0
AcceptedCasesHaveNoPlan =
    (soc : SocValue) (limits : LimitsValue) (lists : List ListValue) (claim : ℕ) (c : Case) (tree : CaseTree) →
    IsSoundChip soc → IsSoundLimits soc limits → AreKept soc limits lists →
    AreEnough soc limits lists claim (cases_of soc limits.wires c tree) →
    (plan : PlanValue) (ranking : List ℕ) → IsGood soc limits plan → IsRanking plan ranking → IsInCase soc plan ranking c →
    plan.cycles < claim → ⊥

-- no good plan has fewer cycles than an accepted proof claims
abbrev pub AcceptedProofsAreBounds : Type 0
AcceptedProofsAreBounds =
    (soc : SocValue) (limits : LimitsValue) (p : ProofValue) →
    IsSoundChip soc → IsSoundLimits soc limits → IsAccepted soc limits p → IsBound soc limits p.claimed

-- a list of nodes is that of at most one tree
abbrev pub NodesTellTheTree : Type 0
NodesTellTheTree = (a b : CaseTree) → nodes_of a ≡ nodes_of b → a ≡ b

-- a proof has at most one fault, and none where it is accepted
abbrev pub ProofsHaveOneFault : Type 0
ProofsHaveOneFault =
    (soc : SocValue) (limits : LimitsValue) (p : ProofValue) (f g : ProofFault) →
    IsProofFault soc limits p f → IsProofFault soc limits p g → f ≡ g

abbrev pub AcceptedProofsHaveNoFault : Type 0
AcceptedProofsHaveNoFault =
    (soc : SocValue) (limits : LimitsValue) (p : ProofValue) (f : ProofFault) →
    IsAccepted soc limits p → IsProofFault soc limits p f → ⊥

-- a leaf that doesn't hold shows fewer cycles than claimed, where any are claimed
abbrev pub LessShowsLess : Type 0
LessShowsLess =
    (soc : SocValue) (limits : LimitsValue) (p : ProofValue) (place claimed shown : ℕ) →
    IsProofFault soc limits p (Less place claimed shown) → 1 ≤ claimed → shown < claimed
