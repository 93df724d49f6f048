-- The words of a tree's text.
use Rattle.std.specs.Prelude.{ℕ, List, [], ◌∷◌, codes, map}
use Rattle.plan_model.specs.declared.TheConstants.{PLAN_NUMBER_MOST}
use Rattle.keyword_text.specs.Tokens.{Lexicon}
use Rattle.width_tree.specs.declared.tokens.Keyword.{Keyword}
use Rattle.width_tree.specs.declared.tokens.Keyword.TheVariants as key

-- a keyword, which is read in any case of its letters
abbrev pub spelling : Keyword → List ℕ
spelling key.Tree = codes "Tree"
spelling key.Bound = codes "Bound"
spelling key.Split = codes "Split"
spelling key.Time = codes "Time"
spelling key.Area = codes "Area"
spelling key.Bus = codes "Bus"
spelling key.Apart = codes "Apart"

abbrev pub keywords : List Keyword
keywords = key.Tree ∷ key.Bound ∷ key.Split ∷ key.Time ∷ key.Area ∷ key.Bus ∷ key.Apart ∷ []

-- the keywords, and the range of a tree's numbers
abbrev pub tree_lexicon : Lexicon Keyword
tree_lexicon = record { table = map (λ (k : Keyword). (k, spelling k)) keywords; most = PLAN_NUMBER_MOST }
