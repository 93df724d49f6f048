-- The words of a text, as what they stand for.
use Rattle.std.specs.Prelude.{ℕ, List, [], ◌∷◌, map, Option, None, Some, if◌then◌else◌}
use Rattle.outside.specs.Decimal.{number_of}
use Rattle.outside.specs.Words.{same_letters}
use Rattle.keyword_text.specs.declared.tokens.Spelled.{Spelled}
use Rattle.keyword_text.specs.declared.tokens.Token.{Token}
use Rattle.keyword_text.specs.declared.tokens.Token.TheVariants.{Key, Number}

-- The words of a format: its keywords, each as it is spelled, and its greatest number.
pub record Lexicon (K : Type 0) : Type 0 where
  pub table : List (K × List ℕ)
  pub most : ℕ

abbrev pub lexicon_of : {K : Type 0} → List (K × List ℕ) → ℕ → Lexicon K
lexicon_of table most = record { table = table; most = most }

abbrev pub table_value : {K : Type 0} → List (Spelled K) → List (K × List ℕ)
table_value es = map (λ e. (e.key, e.word.now)) es

-- the first keyword of the table that is spelled so, in any case of its letters
abbrev pub named : {K : Type 0} → List (K × List ℕ) → List ℕ → Option K
named [] w = None
named (e ∷ es) w = if same_letters w e.1 then Some e.0 else named es w

abbrev pub number_or_key : {K : Type 0} → Option ℕ → Option K → Option (Token K)
number_or_key (Some n) k = Some (Number n)
number_or_key None (Some k) = Some (Key k)
number_or_key None None = None

-- what a word stands for: a number of the format's range, or a keyword
unfoldable pub token_of : {K : Type 0} → Lexicon K → List ℕ → Option (Token K)
token_of l w = number_or_key (number_of w l.most) (named l.table w)
