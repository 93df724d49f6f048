-- What a tree shows.
use Rattle.std.specs.Prelude.{◌≡◌, ◌≤◌}
use Rattle.soc_model.specs.Chips.{SocValue}
use Rattle.plan_model.specs.Plans.{LimitsValue}
use Rattle.plan_model.specs.Rules.{IsBound}
use Rattle.width_tree.specs.declared.TreeFault.{TreeFault}
use Rattle.width_tree.specs.Trees.{WidthTree, nodes_of, TreeValue}
use Rattle.width_tree.specs.Bounds.{IsAcceptedTree, IsTreeFault}

-- a list of nodes is that of at most one tree
abbrev pub NodesTellTheTree : Type 0
NodesTellTheTree = (a b : WidthTree) → nodes_of a ≡ nodes_of b → a ≡ b

-- no good plan has fewer cycles than an accepted tree claims
abbrev pub AcceptedTreesAreBounds : Type 0
AcceptedTreesAreBounds =
    (soc : SocValue) (limits : LimitsValue) (t : TreeValue) → 1 ≤ limits.wires → IsAcceptedTree soc limits t → IsBound soc limits t.claimed

-- a tree has at most one fault, and none where it is accepted
abbrev pub TreesHaveOneFault : Type 0
TreesHaveOneFault = (soc : SocValue) (limits : LimitsValue) (t : TreeValue) (f g : TreeFault) → IsTreeFault soc limits t f →
    IsTreeFault soc limits t g → f ≡ g

abbrev pub AcceptedTreesHaveNoFault : Type 0
AcceptedTreesHaveNoFault =
    (soc : SocValue) (limits : LimitsValue) (t : TreeValue) (f : TreeFault) → IsAcceptedTree soc limits t → IsTreeFault soc limits t f → ⊥
