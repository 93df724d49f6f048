-- The grammar of a tree's text: a set of whole lists of words.
use Rattle.std.specs.Prelude.{ℕ, List, [], ◌∷◌, ◌++◌, map}
use Rattle.std.specs.List.{flat_map}
use Rattle.keyword_text.specs.declared.tokens.Token.{Token}
use Rattle.keyword_text.specs.declared.tokens.Token.TheVariants.{Key, Number}
use Rattle.keyword_text.specs.Texts.{Grammar}
use Rattle.width_tree.specs.declared.tokens.Keyword.{Keyword}
use Rattle.width_tree.specs.declared.tokens.Keyword.TheVariants as key
use Rattle.width_tree.specs.Tokens.{tree_lexicon}
use Rattle.width_tree.specs.Trees.{LeafValue, OfTime, OfArea, OfBus, OfApart, NodeValue, OfSplit, OfLeaf, IsOneTree, TreeValue}

-- the words of a node, without its branches
abbrev pub leaf_tokens : LeafValue → List (Token Keyword)
leaf_tokens (OfTime m) = Key key.Time ∷ Number m ∷ []
leaf_tokens OfArea = Key key.Area ∷ []
leaf_tokens (OfBus ms) = Key key.Bus ∷ map Number ms
leaf_tokens (OfApart a b) = Key key.Apart ∷ Number a ∷ Number b ∷ []

abbrev pub node_tokens : NodeValue → List (Token Keyword)
node_tokens (OfSplit m width) = Key key.Split ∷ Number m ∷ Number width ∷ []
node_tokens (OfLeaf leaf) = leaf_tokens leaf

-- the form and the claim
abbrev pub head_tokens : ℕ → List (Token Keyword)
head_tokens claimed = Key key.Tree ∷ Number 1 ∷ Key key.Bound ∷ Number claimed ∷ []

abbrev pub nodes_tokens : List NodeValue → List (Token Keyword)
nodes_tokens nodes = flat_map node_tokens nodes

-- the words of a tree
abbrev pub tree_tokens : TreeValue → List (Token Keyword)
tree_tokens t = head_tokens t.claimed ++ nodes_tokens t.nodes

-- the words are the claim and the nodes, which are one node with its branches
abbrev pub tree_grammar : Grammar Keyword TreeValue
tree_grammar = record { lexicon = tree_lexicon; tokens = tree_tokens; Allowed = λ (t : TreeValue). IsOneTree t.nodes }
