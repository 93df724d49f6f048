-- What a text says is settled, and so is its answer.
use Rattle.std.proofs.Common.{◌≡◌, ℕ, List}
use Rattle.std.specs.Prelude.{Ok, Err}
use Rattle.outside.specs.declared.reading.Unread.{Unread}
use Rattle.outside.specs.declared.reading.Unread.TheVariants.{Refused, NoMemory}
use Rattle.outside.specs.Words.{Word, words_of}
use Rattle.outside.specs.Grammars.{RefusedAt, last_line}
use Rattle.outside.proofs.Refusals as outside
use Rattle.keyword_text.specs.Texts.{Grammar, InGrammar, Says}
use Rattle.keyword_text.specs.Laws.{AreAnswered}
use Rattle.keyword_text.specs.Machines.{Machine, ReadsGrammar}
use Rattle.keyword_text.specs.Reads.{IsUnread, IsWant}
use Rattle.keyword_text.proofs.Viability.{one_value}

-- words that say a value are refused at no line
pub not_refused : {K V : Type 0} (g : Grammar K V) (ws : List Word) (end line : ℕ) → InGrammar g ws → RefusedAt (InGrammar g) ws end line → ⊥
not_refused g ws end line is refused = outside.not_refused (InGrammar g) ws end line is refused

-- words are refused at no more than one line
pub refused_once : {K V : Type 0} (g : Grammar K V) (ws : List Word) (end a b : ℕ) → RefusedAt (InGrammar g) ws end a → RefusedAt (InGrammar g) ws end b → a ≡ b
refused_once g ws end a b first second = outside.refused_once (InGrammar g) ws end a b first second

-- a text that says a value isn't refused
want : {K V : Type 0} (g : Grammar K V) (bytes : List ℕ) (value : V) (unread : Unread) → IsUnread g bytes unread → Says g bytes value → IsWant unread
want g bytes value (Refused line) is says = not_refused g (words_of bytes) (last_line bytes) line (value, says) is
want g bytes value NoMemory is says = tt

-- a text that says a value is answered with it, unless memory runs out
pub answered : {K S V T E : Type 0} (g : Grammar K V) (m : Machine K S V) → ReadsGrammar g m → (value_of : T → V) (unread_of : E → Unread) → AreAnswered g value_of unread_of
answered g m reads value_of unread_of bytes value (Ok read) is says = one_value g m reads (words_of bytes) (value_of read) value is says
answered g m reads value_of unread_of bytes value (Err fault) is says = want g bytes value (unread_of fault) is says
