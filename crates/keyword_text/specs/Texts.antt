-- A format of texts, and the grammar that follows from it: a set of whole lists of words.
use Rattle.std.specs.Prelude.{◌≡◌, ℕ, ◌≤◌, List, [], ◌∷◌, Option, Some, map}
use Rattle.outside.specs.Words.{Word, words_of}
use Rattle.outside.specs.Grammars.{IsRefused}
use Rattle.keyword_text.specs.declared.tokens.Token.{Token}
use Rattle.keyword_text.specs.declared.tokens.Token.TheVariants.{Key, Number}
use Rattle.keyword_text.specs.Tokens.{Lexicon, token_of}

-- A format: what its words stand for; of each value what its words are, one by one; and which values are allowed.
pub record Grammar (K V : Type 0) : Type 1 where
  pub lexicon : Lexicon K
  pub tokens : V → List (Token K)
  pub Allowed : V → Type 0

-- what each word stands for
abbrev pub meanings : {K : Type 0} → Lexicon K → List Word → List (Option (Token K))
meanings l ws = map (λ (w : Word). token_of l w.0) ws

-- the words stand for these, one by one
abbrev pub Spells : {K : Type 0} → Lexicon K → List Word → List (Token K) → Type 0
Spells l ws ts = meanings l ws ≡ map Some ts

-- The words say the value: they are its words, and it is allowed.
pub record IsText {K V : Type 0} (g : Grammar K V) (ws : List Word) (value : V) : Type 0 where
  pub words : Spells g.lexicon ws (g.tokens value)
  pub allowed : g.Allowed value

-- the set of whole lists of words
abbrev pub InGrammar : {K V : Type 0} → Grammar K V → List Word → Type 0
InGrammar {V} g ws = (value : V) × IsText g ws value

-- the text says this value
abbrev pub Says : {K V : Type 0} → Grammar K V → List ℕ → V → Type 0
Says g bytes value = IsText g (words_of bytes) value

-- the grammar refuses the text at this line
abbrev pub Refuses : {K V : Type 0} → Grammar K V → List ℕ → ℕ → Type 0
Refuses g bytes line = IsRefused (InGrammar g) bytes line

-- ---- numbers of the format's range

abbrev pub IsSmall : {K : Type 0} → ℕ → Token K → Type 0
IsSmall most (Key k) = Unit {0}
IsSmall most (Number n) = n ≤ most

abbrev pub AllSmall : {K : Type 0} → ℕ → List (Token K) → Type 0
AllSmall most [] = Unit {0}
AllSmall most (t ∷ ts) = IsSmall most t × AllSmall most ts
