-- What was read of a text, word by word.
use Rattle.std.specs.Prelude.{◌≡◌, ℕ, List, Option, None, Some, Result, Ok, Err}
use Rattle.outside.specs.declared.reading.Stop.{Stop}
use Rattle.outside.specs.declared.reading.Stop.TheVariants.{Refused, NoMemory}
use Rattle.outside.specs.declared.reading.Unread.{Unread}
use Rattle.outside.specs.declared.reading.Unread.TheVariants as unread
use Rattle.outside.specs.Words.{Word}
use Rattle.keyword_text.specs.declared.tokens.Token.{Token}
use Rattle.keyword_text.specs.Tokens.{Lexicon}
use Rattle.keyword_text.specs.Texts.{Grammar, Spells, Says, Refuses}
use Rattle.keyword_text.specs.Machines.{Machine, IsRun, ReadsGrammar}

-- the state after these words
pub record IsAfter {K S V : Type 0} (l : Lexicon K) (m : Machine K S V) (s : S) (words : List Word) : Type 0 where
  pub tokens : List (Token K)
  pub spelled : Spells l words tokens
  pub read : IsRun m tokens s

-- the state after these words of a machine that reads the grammar
pub record IsReadBy {K S V : Type 0} (g : Grammar K V) (m : Machine K S V) (s : S) (words : List Word) : Type 0 where
  pub after : IsAfter g.lexicon m s words
  pub reads : ReadsGrammar g m

-- What was to be made is this, as what it stands for; or nothing is to be made; or memory ran out.
abbrev pub Makes : {X T : Type 0} → (T → X) → Option X → Result T Stop → Type 0
Makes value_of wanted (Ok made) = wanted ≡ Some (value_of made)
Makes value_of wanted (Err Refused) = wanted ≡ None
Makes value_of wanted (Err NoMemory) = Unit {0}

-- The line at which the grammar refuses the text; or memory ran out.
abbrev pub IsUnread : {K V : Type 0} → Grammar K V → List ℕ → Unread → Type 0
IsUnread g bytes (unread.Refused line) = Refuses g bytes line
IsUnread g bytes unread.NoMemory = Unit {0}

-- The value that the text says, as what it stands for; or why the text isn't read.
abbrev pub IsReadText : {K V T E : Type 0} → Grammar K V → (T → V) → (E → Unread) → List ℕ → Result T E → Type 0
IsReadText g value_of unread_of bytes (Ok value) = Says g bytes (value_of value)
IsReadText g value_of unread_of bytes (Err fault) = IsUnread g bytes (unread_of fault)

-- there was no memory
abbrev pub IsWant : Unread → Type 0
IsWant (unread.Refused line) = ⊥
IsWant unread.NoMemory = Unit {0}

-- the answer for a text that says this value
abbrev pub IsAnswer : {V T E : Type 0} → (T → V) → (E → Unread) → V → Result T E → Type 0
IsAnswer value_of unread_of value (Ok read) = value_of read ≡ value
IsAnswer value_of unread_of value (Err fault) = IsWant (unread_of fault)
