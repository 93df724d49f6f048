-- What the reader of a format answers.
use Rattle.std.proofs.Common.{◌≡◌, ℕ, List, [], ◌∷◌, ◌++◌, Option, None, Some, sym, ◌∙◌, ap, subst}
use Rattle.std.specs.Prelude.{Result, Ok, Err}
use Rattle.outside.specs.declared.reading.Stop.{Stop}
use Rattle.outside.specs.declared.reading.Stop.TheVariants.{Refused, NoMemory}
use Rattle.outside.specs.declared.reading.Unread.{Unread}
use Rattle.outside.specs.declared.reading.Unread.TheVariants as why
use Rattle.outside.specs.Words.{Word}
use Rattle.outside.specs.Grammars.{Stops, Ends, IsRead}
use Rattle.keyword_text.specs.declared.tokens.Token.{Token}
use Rattle.keyword_text.specs.Tokens.{Lexicon, lexicon_of, token_of}
use Rattle.keyword_text.specs.Texts.{Grammar, IsText, InGrammar}
use Rattle.keyword_text.specs.Machines.{Machine, ReadsGrammar}
use Rattle.keyword_text.specs.Reads.{IsAfter, Makes, IsUnread}
use Rattle.keyword_text.proofs.Viability.{unknown_word, stuck_word, read_whole, read_one, stops_here, ends_here}

-- the table and the greatest number are those of the format
pub record IsLexicon {K : Type 0} (l : Lexicon K) (table : List (K × List ℕ)) (most : ℕ) : Type 0 where
  pub table_is : table ≡ l.table
  pub most_is : most ≡ l.most

meant : {K : Type 0} (l : Lexicon K) (table : List (K × List ℕ)) (most : ℕ) (w : List ℕ) (o : Option (Token K)) → IsLexicon l table most → o ≡ token_of (lexicon_of table most) w → token_of l w ≡ o
meant l table most w o is e = sym (e ∙ ap (λ t. token_of (lexicon_of t most) w) is.table_is ∙ ap (λ n. token_of (lexicon_of l.table n) w) is.most_is)

pub goes_on : {K S V : Type 0} (g : Grammar K V) (m : Machine K S V) (table : List (K × List ℕ)) (most : ℕ) → IsLexicon g.lexicon table most → (s next : S) (front : List Word) (w : Word) (t : Token K)
    → IsAfter g.lexicon m s front → Some t ≡ token_of (lexicon_of table most) w.0 → m.step s t ≡ Some next → IsAfter g.lexicon m next (front ++ w ∷ [])
goes_on g m table most is s next front w t at token goes = read_one g.lexicon m s next front w t at (meant g.lexicon table most w.0 (Some t) is token) goes

-- the word stands for nothing
pub unknown : {K S V : Type 0} (g : Grammar K V) (m : Machine K S V) → ReadsGrammar g m → (table : List (K × List ℕ)) (most : ℕ) → IsLexicon g.lexicon table most → (s : S) (front : List Word) (w : Word)
    → IsAfter g.lexicon m s front → None ≡ token_of (lexicon_of table most) w.0 → Stops (InGrammar g) front w
unknown g m reads table most is s front w at token = stops_here g m reads front s w at (unknown_word g.lexicon m s w (meant g.lexicon table most w.0 None is token))

-- nothing goes on with the word
pub stops : {K S V : Type 0} (g : Grammar K V) (m : Machine K S V) → ReadsGrammar g m → (table : List (K × List ℕ)) (most : ℕ) → IsLexicon g.lexicon table most → (s : S) (front : List Word) (w : Word) (t : Token K)
    → IsAfter g.lexicon m s front → Some t ≡ token_of (lexicon_of table most) w.0 → m.step s t ≡ None → Stops (InGrammar g) front w
stops g m reads table most is s front w t at token none = stops_here g m reads front s w at (stuck_word g.lexicon m s w t (meant g.lexicon table most w.0 (Some t) is token) none)

-- what stands at the end of the words
pub finishes : {K S V T : Type 0} (g : Grammar K V) (m : Machine K S V) → ReadsGrammar g m → (value_of : T → V) (s : S) (words : List Word) (answer : Result T Stop)
    → IsAfter g.lexicon m s words → Makes value_of (m.end s) answer → Ends (InGrammar g) (λ ws value. IsText g ws (value_of value)) words answer
finishes g m reads value_of s words (Ok value) at is = read_whole g m reads words s (value_of value) at is
finishes g m reads value_of s words (Err Refused) at is = ends_here g m reads words s at is
finishes g m reads value_of s words (Err NoMemory) at is = tt

-- why a text isn't read
pub unread : {K V T : Type 0} (g : Grammar K V) (value_of : T → V) (bytes : List ℕ) (why fault : Unread) → fault ≡ why → IsRead (InGrammar g) (λ ws (value : T). IsText g ws (value_of value)) bytes (Err why) → IsUnread g bytes fault
unread g value_of bytes (why.Refused line) fault same is = subst (IsUnread g bytes) (sym same) is
unread g value_of bytes why.NoMemory fault same is = subst (IsUnread g bytes) (sym same) tt
