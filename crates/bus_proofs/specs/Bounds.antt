-- Accepted proofs, and what a proof that isn't accepted shows.
use Rattle.std.specs.Prelude.{◌≡◌, ℕ, List, take}
use Rattle.std.specs.List.{sum_by}
use Rattle.soc_model.specs.Chips.{SocValue}
use Rattle.plan_model.specs.Plans.{LimitsValue}
use Rattle.plan_model.specs.Rules.{Each, IsFirstBreach}
use Rattle.bus_proofs.specs.declared.ProofFault.{ProofFault}
use Rattle.bus_proofs.specs.declared.ProofFault.TheVariants.{BadList, BadNode, Less}
use Rattle.plan_model.specs.Proofs.{ListValue, LeafValue, OfSum, OfPack, NodeValue, OfSplit, OfLeaf, CaseTree, nodes_of, ProofValue}
use Rattle.leaf_bounds.specs.Cases.{Case, root_case}
use Rattle.bus_proofs.specs.Cases.{NodeCase, cases_of, KeepsSplit}
use Rattle.leaf_bounds.specs.PackLeaves.{pack_work}
use Rattle.leaf_bounds.specs.AnyLeaves.{AnyLeafHolds, KeepsLeaf, any_leaf_shows}
use Rattle.leaf_bounds.specs.Lists.{AreKept, KeptBehind}

-- ---- nodes

-- the work of a node in its case: that of a leaf of prices
abbrev pub work_of_node : (w claim : ℕ) → Case → NodeValue → ℕ
work_of_node w claim c (OfSplit split) = 0
work_of_node w claim c (OfLeaf (OfSum weights)) = 0
work_of_node w claim c (OfLeaf (OfPack pricing)) = pack_work w claim c pricing

-- the work of some nodes
abbrev pub work_of_all : (w claim : ℕ) → List NodeCase → ℕ
work_of_all w claim nodes = sum_by (λ (n : NodeCase). work_of_node w claim n.within n.node) nodes

-- the node keeps its rule in its case
abbrev pub KeepsNode : SocValue → LimitsValue → List ListValue → (claim done : ℕ) → Case → NodeValue → Type 0
KeepsNode soc limits lists claim done c (OfSplit split) = KeepsSplit soc limits.wires c split
KeepsNode soc limits lists claim done c (OfLeaf leaf) = KeepsLeaf soc limits lists claim done c leaf

-- it holds where it is a leaf
abbrev pub NodeHolds : SocValue → LimitsValue → List ListValue → (claim : ℕ) → Case → NodeValue → Type 0
NodeHolds soc limits lists claim c (OfSplit split) = Unit {0}
NodeHolds soc limits lists claim c (OfLeaf leaf) = AnyLeafHolds soc limits lists claim c leaf

-- so a node as it should be
pub record IsEnough (soc : SocValue) (limits : LimitsValue) (lists : List ListValue) (claim done : ℕ) (n : NodeCase) : Type 0 where
  pub rule : KeepsNode soc limits lists claim done n.within n.node
  pub holds : NodeHolds soc limits lists claim n.within n.node

-- behind the nodes before it
abbrev pub EnoughBehind : SocValue → LimitsValue → List ListValue → (claim : ℕ) → (earlier : List NodeCase) → NodeCase → Type 0
EnoughBehind soc limits lists claim earlier n = IsEnough soc limits lists claim (work_of_all limits.wires claim earlier) n

-- each node is as it should be
abbrev pub AreEnough : SocValue → LimitsValue → List ListValue → (claim : ℕ) → List NodeCase → Type 0
AreEnough soc limits lists claim nodes = Each (EnoughBehind soc limits lists claim) nodes

-- the node at the place is the first that isn't
abbrev pub IsFirstLess : SocValue → LimitsValue → List ListValue → (claim : ℕ) → List NodeCase → ℕ → NodeCase → Type 0
IsFirstLess soc limits lists claim nodes place n = IsFirstBreach (EnoughBehind soc limits lists claim) nodes place n

-- the node at the place keeps its rule behind those before it
abbrev pub KeepsNodeAt : SocValue → LimitsValue → List ListValue → (claim : ℕ) → List NodeCase → (place : ℕ) → NodeCase → Type 0
KeepsNodeAt soc limits lists claim nodes place n =
    KeepsNode soc limits lists claim (work_of_all limits.wires claim (take place nodes)) n.within n.node

-- it breaks its rule
pub record IsBadNode (soc : SocValue) (limits : LimitsValue) (lists : List ListValue)
    (claim : ℕ) (nodes : List NodeCase) (place : ℕ) : Type 0 where
  pub n : NodeCase
  pub first : IsFirstLess soc limits lists claim nodes place n
  pub broken : KeepsNodeAt soc limits lists claim nodes place n → ⊥

-- it keeps its rule, and is a leaf that doesn't hold, which shows `shown` cycles
pub record IsLessNode (soc : SocValue) (limits : LimitsValue) (lists : List ListValue)
    (claim : ℕ) (nodes : List NodeCase) (place claimed shown : ℕ) : Type 0 where
  pub n : NodeCase
  pub first : IsFirstLess soc limits lists claim nodes place n
  pub rule : KeepsNodeAt soc limits lists claim nodes place n
  pub leaf : LeafValue
  pub leaf_is : n.node ≡ OfLeaf leaf
  pub claimed_is : claimed ≡ claim
  pub shown_is : shown ≡ any_leaf_shows soc limits lists claim n.within leaf

-- the fault of some nodes
abbrev pub HasFault : SocValue → LimitsValue → List ListValue → (claim : ℕ) → List NodeCase → ProofFault → Type 0
HasFault soc limits lists claim nodes (BadList place) = ⊥
HasFault soc limits lists claim nodes (BadNode place) = IsBadNode soc limits lists claim nodes place
HasFault soc limits lists claim nodes (Less place claimed shown) = IsLessNode soc limits lists claim nodes place claimed shown

-- ---- whole proofs

-- the nodes of a tree with their cases, from the root
abbrev pub all_cases : SocValue → LimitsValue → CaseTree → List NodeCase
all_cases soc limits tree = cases_of soc limits.wires root_case tree

-- An accepted proof: every list keeps its rule, every node keeps its rule, and every leaf holds.
pub record IsAccepted (soc : SocValue) (limits : LimitsValue) (p : ProofValue) : Type 0 where
  pub lists : AreKept soc limits p.lists
  pub tree : CaseTree
  pub nodes : nodes_of tree ≡ p.nodes
  pub enough : AreEnough soc limits p.lists p.claimed (all_cases soc limits tree)

-- the list at the place is the first that breaks its rule
abbrev pub IsBadList : SocValue → LimitsValue → ProofValue → ℕ → Type 0
IsBadList soc limits p place = (list : ListValue) × IsFirstBreach (KeptBehind soc limits) p.lists place list

-- every list keeps its rule, and the first node that isn't as it should be has this fault
pub record IsNodeFault (soc : SocValue) (limits : LimitsValue) (p : ProofValue) (fault : ProofFault) : Type 0 where
  pub lists : AreKept soc limits p.lists
  pub tree : CaseTree
  pub nodes : nodes_of tree ≡ p.nodes
  pub has : HasFault soc limits p.lists p.claimed (all_cases soc limits tree) fault

-- the fault of a proof: that of the first list that breaks its rule, or else that of the first node that has one
abbrev pub IsProofFault : SocValue → LimitsValue → ProofValue → ProofFault → Type 0
IsProofFault soc limits p (BadList place) = IsBadList soc limits p place
IsProofFault soc limits p (BadNode place) = IsNodeFault soc limits p (BadNode place)
IsProofFault soc limits p (Less place claimed shown) = IsNodeFault soc limits p (Less place claimed shown)
