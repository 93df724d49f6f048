-- Width trees: cases on the widths of the buses of modules, and a reason at the end of each. Modules go by their numbers.
use Rattle.std.specs.Prelude.{◌≡◌, ℕ, List, [], ◌∷◌, ◌++◌, map}
use Rattle.width_tree.specs.declared.Node.{Node}
use Rattle.width_tree.specs.declared.Node.TheVariants.{Split, Time, Area, Bus, Apart}
use Rattle.width_tree.specs.declared.Tree.{Tree}

-- why no good plan of a case is shorter
pub data LeafValue : Type 0 where
  OfTime : (number : ℕ) → LeafValue
  OfArea : LeafValue
  OfBus : (modules : List ℕ) → LeafValue
  OfApart : (a b : ℕ) → LeafValue

-- a node: two cases by a width of the bus of a module, or a leaf
pub data NodeValue : Type 0 where
  OfSplit : (number at : ℕ) → NodeValue
  OfLeaf : (leaf : LeafValue) → NodeValue

-- A tree: a leaf, or the tree for the buses of a module up to a width and the tree for those above it.
pub data WidthTree : Type 0 where
  Leaf : (leaf : LeafValue) → WidthTree
  Branches : (number at : ℕ) (narrow wide : WidthTree) → WidthTree

-- the nodes of a tree, each before those of its branches
abbrev pub nodes_of : WidthTree → List NodeValue
nodes_of (Leaf leaf) = OfLeaf leaf ∷ []
nodes_of (Branches m at narrow wide) = OfSplit m at ∷ (nodes_of narrow ++ nodes_of wide)

-- a list of exactly one node with its branches
abbrev pub IsOneTree : List NodeValue → Type 0
IsOneTree nodes = (tree : WidthTree) × (nodes_of tree ≡ nodes)

-- a claim in cycles, and the nodes of a tree that is to show it
pub record TreeValue : Type 0 where
  pub claimed : ℕ
  pub nodes : List NodeValue

-- ---- the structs without where their lists lie in memory

abbrev pub node_value : Node → NodeValue
node_value (Split m at) = OfSplit m at
node_value (Time m) = OfLeaf (OfTime m)
node_value Area = OfLeaf OfArea
node_value (Bus ms) = OfLeaf (OfBus ms.items)
node_value (Apart a b) = OfLeaf (OfApart a b)

abbrev pub tree_value : Tree → TreeValue
tree_value t = record { claimed = t.claimed; nodes = map node_value t.nodes.items }
