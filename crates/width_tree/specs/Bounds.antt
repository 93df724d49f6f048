-- Accepted width trees, and what a tree that isn't accepted shows.
use Rattle.std.specs.Prelude.{◌≡◌, ℕ, ◌<◌, ◌≤◌, Some, Result, Ok, Err, List, IfSome}
use Rattle.soc_model.specs.Chips.{SocValue}
use Rattle.plan_model.specs.Plans.{LimitsValue}
use Rattle.plan_model.specs.Rules.{Each, IsFirstBreach}
use Rattle.width_tree.specs.declared.TreeFault.{TreeFault}
use Rattle.width_tree.specs.declared.TreeFault.TheVariants.{BadNode, Less}
use Rattle.width_tree.specs.Trees.{WidthTree, nodes_of, TreeValue}
use Rattle.width_tree.specs.Cases.{root_case, NodeCase, cases_of, KeepsNode, node_shows}

-- the node keeps its rule, and where it shows a number of cycles, that is at least the claim
pub record IsEnough (soc : SocValue) (w claim : ℕ) (n : NodeCase) : Type 0 where
  pub rule : KeepsNode soc w n.widths n.node
  pub shows : IfSome (node_shows soc w n.widths n.node) (λ v. claim ≤ v)

-- so of each of some nodes
abbrev pub AreEnough : SocValue → (w claim : ℕ) → List NodeCase → Type 0
AreEnough soc w claim nodes = Each (λ (earlier : List NodeCase) (n : NodeCase). IsEnough soc w claim n) nodes

-- the node at the place is the first that isn't
abbrev pub IsFirstLess : SocValue → (w claim : ℕ) → List NodeCase → ℕ → NodeCase → Type 0
IsFirstLess soc w claim nodes place n = IsFirstBreach (λ (earlier : List NodeCase) (n : NodeCase). IsEnough soc w claim n) nodes place n

-- it breaks its rule
pub record IsBadNode (soc : SocValue) (w claim : ℕ) (nodes : List NodeCase) (place : ℕ) : Type 0 where
  pub n : NodeCase
  pub first : IsFirstLess soc w claim nodes place n
  pub broken : KeepsNode soc w n.widths n.node → ⊥

-- it keeps its rule and shows less than the claim
pub record IsLessNode (soc : SocValue) (w claim : ℕ) (nodes : List NodeCase) (place claimed shown : ℕ) : Type 0 where
  pub n : NodeCase
  pub first : IsFirstLess soc w claim nodes place n
  pub rule : KeepsNode soc w n.widths n.node
  pub shows : node_shows soc w n.widths n.node ≡ Some shown
  pub claimed_is : claimed ≡ claim
  pub less : shown < claim

-- the fault of some nodes
abbrev pub HasFault : SocValue → (w claim : ℕ) → List NodeCase → TreeFault → Type 0
HasFault soc w claim nodes (BadNode place) = IsBadNode soc w claim nodes place
HasFault soc w claim nodes (Less place claimed shown) = IsLessNode soc w claim nodes place claimed shown

-- each is enough, or the first that isn't shows this fault
abbrev pub IsChecked : SocValue → (w claim : ℕ) → List NodeCase → Result (Unit {0}) TreeFault → Type 0
IsChecked soc w claim nodes (Ok _) = AreEnough soc w claim nodes
IsChecked soc w claim nodes (Err fault) = HasFault soc w claim nodes fault

-- ---- whole trees

-- the nodes of a tree with their cases, from the root
abbrev pub all_cases : SocValue → LimitsValue → WidthTree → List NodeCase
all_cases soc limits tree = cases_of soc (root_case soc limits.wires) tree

-- A tree that is accepted: every node keeps its rule, and every leaf that shows a number of cycles shows at least the claim.
pub record IsAcceptedTree (soc : SocValue) (limits : LimitsValue) (t : TreeValue) : Type 0 where
  pub tree : WidthTree
  pub nodes : nodes_of tree ≡ t.nodes
  pub enough : AreEnough soc limits.wires t.claimed (all_cases soc limits tree)

-- the fault of a tree: that of the first of its nodes that has one
pub record IsTreeFault (soc : SocValue) (limits : LimitsValue) (t : TreeValue) (fault : TreeFault) : Type 0 where
  pub tree : WidthTree
  pub nodes : nodes_of tree ≡ t.nodes
  pub has : HasFault soc limits.wires t.claimed (all_cases soc limits tree) fault
