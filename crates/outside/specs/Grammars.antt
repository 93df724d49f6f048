-- A grammar is a set of whole lists of words. What begins a list of the set, and the line at which a text is refused,
-- follow from the set alone.
use Rattle.std.specs.Prelude.{◌≡◌, ◌⊎◌, ℕ, ◌+◌, ◌++◌, List, [], ◌∷◌, count_by, Result, Ok, Err}
use Rattle.outside.specs.declared.reading.Stop.{Stop}
use Rattle.outside.specs.declared.reading.Stop.TheVariants as stop
use Rattle.outside.specs.declared.reading.Unread.{Unread}
use Rattle.outside.specs.declared.reading.Unread.TheVariants as unread
use Rattle.outside.specs.Words.{Word, words_of, is_line_feed}

-- some list of the set begins so
abbrev pub Viable : (List Word → Type 0) → List Word → Type 0
Viable whole ws = (more : List Word) × whole (ws ++ more)

-- the first word with which no list of the set begins
pub record StopsAt (whole : List Word → Type 0) (ws : List Word) (line : ℕ) : Type 0 where
  pub front : List Word
  pub stop : Word
  pub rest : List Word
  pub words : ws ≡ front ++ stop ∷ rest
  pub before : Viable whole front
  pub refused : Viable whole (front ++ stop ∷ []) → ⊥
  pub here : line ≡ stop.1

-- the words begin a list of the set, and are none
pub record EndsEarly (whole : List Word → Type 0) (ws : List Word) : Type 0 where
  pub viable : Viable whole ws
  pub refused : whole ws → ⊥

-- the line that is refused: of the first such word, or else the line on which the text ends
abbrev pub RefusedAt : (List Word → Type 0) → List Word → ℕ → ℕ → Type 0
RefusedAt whole ws end line = StopsAt whole ws line ⊎ (EndsEarly whole ws × (line ≡ end))

-- the line on which a text ends: 1 more than its line feeds
abbrev pub last_line : List ℕ → ℕ
last_line bytes = 1 + count_by is_line_feed bytes

-- the grammar refuses the text at this line
abbrev pub IsRefused : (List Word → Type 0) → List ℕ → ℕ → Type 0
IsRefused whole bytes line = RefusedAt whole (words_of bytes) (last_line bytes) line

-- ---- what is answered

-- these words begin a list of the set, and none with this word behind them
pub record Stops (whole : List Word → Type 0) (front : List Word) (word : Word) : Type 0 where
  pub before : Viable whole front
  pub refused : Viable whole (front ++ word ∷ []) → ⊥

-- After these words: the next one was read too; or no list of the set goes on with it; or memory ran out.
abbrev pub Steps : {S : Type 0} → (List Word → Type 0) → (S → List Word → Type 0) → List Word → Word → Result S Stop → Type 0
Steps whole has_read front word (Ok next) = has_read next (front ++ word ∷ [])
Steps whole has_read front word (Err stop.Refused) = Stops whole front word
Steps whole has_read front word (Err stop.NoMemory) = Unit {0}

-- The words say this value; or they end too early; or memory ran out.
abbrev pub Ends : {V : Type 0} → (List Word → Type 0) → (List Word → V → Type 0) → List Word → Result V Stop → Type 0
Ends whole says words (Ok value) = says words value
Ends whole says words (Err stop.Refused) = EndsEarly whole words
Ends whole says words (Err stop.NoMemory) = Unit {0}

-- The text says this value; or the grammar refuses it at that line; or memory ran out.
abbrev pub IsRead : {V : Type 0} → (List Word → Type 0) → (List Word → V → Type 0) → List ℕ → Result V Unread → Type 0
IsRead whole says bytes (Ok value) = says (words_of bytes) value
IsRead whole says bytes (Err (unread.Refused line)) = IsRefused whole bytes line
IsRead whole says bytes (Err unread.NoMemory) = Unit {0}
