-- What reads a format's words one by one.
use Rattle.std.specs.Prelude.{◌≡◌, ◌<◌, ◌^◌, ℕ, List, Option, Some}
use Rattle.outside.specs.Runs.{run_by}
use Rattle.keyword_text.specs.declared.tokens.Token.{Token}
use Rattle.keyword_text.specs.declared.tokens.Token.TheVariants.{Key}
use Rattle.keyword_text.specs.Tokens.{Lexicon, token_of}
use Rattle.keyword_text.specs.Texts.{Grammar, AllSmall}

-- States, of which one stands at the beginning; the state after one more word, where a text goes on so; the value that the words
-- say, where they may end.
pub record Machine (K S V : Type 0) : Type 0 where
  pub start : S
  pub step : S → Token K → Option S
  pub end : S → Option V

-- the state after these words
abbrev pub run_tokens : {K S V : Type 0} → Machine K S V → Option S → List (Token K) → Option S
run_tokens m s ts = run_by m.step s ts

-- these words are read, from the beginning on
abbrev pub IsRun : {K S V : Type 0} → Machine K S V → List (Token K) → S → Type 0
IsRun m ts s = run_by m.step (Some m.start) ts ≡ Some s

-- ---- what a format shows of its machine

-- words that make a state end, with numbers of the format's range
pub record MayEnd {K S V : Type 0} (m : Machine K S V) (most : ℕ) (s : S) : Type 0 where
  pub more : List (Token K)
  pub small : AllSmall most more
  pub end : S
  pub value : V
  pub runs : run_by m.step (Some s) more ≡ Some end
  pub ends : m.end end ≡ Some value

-- the words of the value were read, and it is what they say
pub record IsReadWhole {K S V : Type 0} (m : Machine K S V) (ts : List (Token K)) (value : V) : Type 0 where
  pub end : S
  pub runs : IsRun m ts end
  pub ends : m.end end ≡ Some value

-- what the words said that were read, up to where they may end
pub record IsSaid {K V : Type 0} (g : Grammar K V) (ts : List (Token K)) (value : V) : Type 0 where
  pub words : ts ≡ g.tokens value
  pub allowed : g.Allowed value

-- a word for the keyword
pub record IsSpelled {K : Type 0} (l : Lexicon K) (k : K) : Type 0 where
  pub word : List ℕ
  pub is : token_of l word ≡ Some (Key k)

-- The machine reads the grammar: where words with numbers of the range may end, they are those of the value; the words of each value
-- are read; each state that it comes to may still be ended; each keyword has a word; and numbers fit 64 bits.
pub record ReadsGrammar {K S V : Type 0} (g : Grammar K V) (m : Machine K S V) : Type 0 where
  pub sound : (ts : List (Token K)) (s : S) (value : V) → AllSmall g.lexicon.most ts → IsRun m ts s → m.end s ≡ Some value →
      IsSaid g ts value
  pub complete : (value : V) → g.Allowed value → IsReadWhole m (g.tokens value) value
  pub endable : (ts : List (Token K)) (s : S) → IsRun m ts s → MayEnd m g.lexicon.most s
  pub spelled : (k : K) → IsSpelled g.lexicon k
  pub fits : g.lexicon.most < 2 ^ 64
