-- What is answered of a text.
use Rattle.std.specs.Prelude.{ℕ, List, Result}
use Rattle.outside.specs.declared.reading.Unread.{Unread}
use Rattle.outside.specs.declared.reading.Unread.TheVariants as unread
use Rattle.keyword_text.specs.Texts.{Refuses, Says as SaysValue}
use Rattle.keyword_text.specs.Reads.{IsReadText}
use Rattle.width_tree.specs.declared.Tree.{Tree}
use Rattle.width_tree.specs.declared.TreeTextFault.{TreeTextFault}
use Rattle.width_tree.specs.declared.TreeTextFault.TheVariants.{Text, NoMemory}
use Rattle.width_tree.specs.Trees.{TreeValue, tree_value}
use Rattle.width_tree.specs.TreeText.{tree_grammar}

-- the text says this claim and these nodes
abbrev pub Says : List ℕ → TreeValue → Type 0
Says bytes t = SaysValue tree_grammar bytes t

-- the grammar refuses the text at this line
abbrev pub RefusesText : List ℕ → ℕ → Type 0
RefusesText bytes line = Refuses tree_grammar bytes line

-- why a tree isn't read
abbrev pub tree_unread : TreeTextFault → Unread
tree_unread (Text line) = unread.Refused line
tree_unread NoMemory = unread.NoMemory

-- The tree that the text says; or the line at which the grammar refuses the text; or memory ran out.
abbrev pub TreeRead : List ℕ → Result Tree TreeTextFault → Type 0
TreeRead bytes result = IsReadText tree_grammar tree_value tree_unread bytes result
