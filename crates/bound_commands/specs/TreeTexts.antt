-- The lines that are written of a width tree.
use Rattle.std.specs.Prelude.{ℕ, ◌++◌, List, codes, decimal}
use Rattle.width_tree.specs.declared.TreeFault.{TreeFault}
use Rattle.width_tree.specs.declared.TreeFault.TheVariants.{BadNode, Less}
use Rattle.width_tree.specs.Trees.{TreeValue}
use Rattle.commands.specs.Texts.{two_numbers}

-- a tree that is accepted: the cycles that no good plan goes below
abbrev pub bound_line : TreeValue → List ℕ
bound_line tree = codes "bound " ++ decimal tree.claimed ++ codes "\n"

-- refused at a line of its text
abbrev pub tree_line : ℕ → List ℕ
tree_line line = codes "refused tree line " ++ decimal line ++ codes "\n"

-- refused for a fault: the place of the node, and what it shows where that is less than the claim
abbrev pub tree_fault_line : TreeFault → List ℕ
tree_fault_line (BadNode place) = codes "refused tree node " ++ decimal place ++ codes "\n"
tree_fault_line (Less place claimed shown) =
    codes "refused tree less " ++ decimal place ++ codes " " ++ two_numbers claimed shown ++ codes "\n"
