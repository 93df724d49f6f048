-- What a text says is settled.
use Rattle.std.specs.Prelude.{◌≡◌, ◌⊎◌, ℕ, List, Result}
use Rattle.outside.specs.declared.reading.Unread.{Unread}
use Rattle.outside.specs.Words.{Word}
use Rattle.outside.specs.Grammars.{RefusedAt}
use Rattle.keyword_text.specs.Texts.{Grammar, IsText, InGrammar, Says, Refuses}
use Rattle.keyword_text.specs.Reads.{IsReadText, IsAnswer}

-- words say at most one value
abbrev pub SayOne : {K V : Type 0} → Grammar K V → Type 0
SayOne {V} g = (ws : List Word) (a b : V) → IsText g ws a → IsText g ws b → a ≡ b

-- words that say a value are refused at no line
abbrev pub AreNotRefused : {K V : Type 0} → Grammar K V → Type 0
AreNotRefused g = (ws : List Word) (end line : ℕ) → InGrammar g ws → RefusedAt (InGrammar g) ws end line → ⊥

-- words are refused at no more than one line
abbrev pub AreRefusedOnce : {K V : Type 0} → Grammar K V → Type 0
AreRefusedOnce g = (ws : List Word) (end a b : ℕ) → RefusedAt (InGrammar g) ws end a → RefusedAt (InGrammar g) ws end b → a ≡ b

-- a text says a value, or is refused at a line
abbrev pub HaveAnswers : {K V : Type 0} → Grammar K V → Type 0
HaveAnswers {V} g = (bytes : List ℕ) → ((value : V) × Says g bytes value) ⊎ ((line : ℕ) × Refuses g bytes line)

-- a text that says a value is answered with that value, unless memory runs out
abbrev pub AreAnswered : {K V T E : Type 0} → Grammar K V → (T → V) → (E → Unread) → Type 0
AreAnswered {V = V} {T = T} {E = E} g value_of unread_of =
    (bytes : List ℕ) (value : V) (answer : Result T E) → IsReadText g value_of unread_of bytes answer → Says g bytes value
    → IsAnswer value_of unread_of value answer
