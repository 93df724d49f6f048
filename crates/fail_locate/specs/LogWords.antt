-- The words of a fail log, and the log that they say.
use Rattle.std.specs.Prelude.{ℕ, List, [], ◌∷◌, codes}
use Rattle.std.specs.List.{flat_map}
use Rattle.outside.specs.Words.{Word}
use Rattle.plan_model.specs.declared.TheConstants.{PLAN_NUMBER_MOST}
use Rattle.keyword_text.specs.declared.tokens.Token.{Token}
use Rattle.keyword_text.specs.declared.tokens.Token.TheVariants.{Key, Number}
use Rattle.keyword_text.specs.Tokens.{Lexicon}
use Rattle.keyword_text.specs.Texts.{Grammar, IsText}
use Rattle.fail_locate.specs.declared.tokens.Keyword.{Keyword}
use Rattle.fail_locate.specs.declared.tokens.Keyword.TheVariants as key

-- the keywords, and the range of a log's numbers
abbrev pub log_lexicon : Lexicon Keyword
log_lexicon = record { table = (key.Log, codes "Log") ∷ (key.Fail, codes "Fail") ∷ []; most = PLAN_NUMBER_MOST }

-- the words of a fail: its cycle and its wire
abbrev pub fail_tokens : ℕ × ℕ → List (Token Keyword)
fail_tokens f = Key key.Fail ∷ Number f.0 ∷ Number f.1 ∷ []

-- the words of a log of these fails
abbrev pub log_tokens : List (ℕ × ℕ) → List (Token Keyword)
log_tokens fails = Key key.Log ∷ Number 1 ∷ flat_map fail_tokens fails

-- every list of fails has a log, cycle and wire of each in its order
abbrev pub log_grammar : Grammar Keyword (List (ℕ × ℕ))
log_grammar = record { lexicon = log_lexicon; tokens = log_tokens; Allowed = λ fails. Unit {0} }

-- the words are a log of these fails
abbrev pub IsLog : List Word → List (ℕ × ℕ) → Type 0
IsLog ws fails = IsText log_grammar ws fails
