-- What the bytes of a file with a width tree say, the lines that refuse them.
use Rattle.std.specs.Prelude.{◌≡◌, ℕ, ◌⊎◌, List}
use Rattle.soc_model.specs.Chips.{SocValue}
use Rattle.plan_model.specs.Plans.{LimitsValue}
use Rattle.width_tree.specs.declared.TreeFault.{TreeFault}
use Rattle.width_tree.specs.Trees.{TreeValue}
use Rattle.width_tree.specs.Answers.{Says, RefusesText}
use Rattle.width_tree.specs.Bounds.{IsAcceptedTree, IsTreeFault}
use Rattle.bound_commands.specs.TreeTexts.{tree_line, tree_fault_line}

-- the text says the tree, which is accepted for the chip under the limits
abbrev pub SaysAcceptedTree : SocValue → LimitsValue → List ℕ → TreeValue → Type 0
SaysAcceptedTree chip bounds bytes value = Says bytes value × IsAcceptedTree chip bounds value

-- the tree's text is refused at a line, or says a tree with a fault
abbrev pub RefusesTree : SocValue → LimitsValue → List ℕ → List ℕ → Type 0
RefusesTree chip bounds bytes text =
    ((line : ℕ) × RefusesText bytes line × (text ≡ tree_line line))
    ⊎ ((value : TreeValue) × Says bytes value × ((fault : TreeFault) × IsTreeFault chip bounds value fault
    × (text ≡ tree_fault_line fault)))
