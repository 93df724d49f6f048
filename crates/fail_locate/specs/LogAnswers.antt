-- What is answered of a log's text.
use Rattle.std.specs.Prelude.{ℕ, List, Result}
use Rattle.std.specs.Global.{Vec}
use Rattle.outside.specs.declared.reading.Unread.{Unread}
use Rattle.outside.specs.declared.reading.Unread.TheVariants as unread
use Rattle.keyword_text.specs.Texts.{Says, Refuses}
use Rattle.keyword_text.specs.Reads.{IsReadText}
use Rattle.fail_locate.specs.declared.LogFault.{LogFault}
use Rattle.fail_locate.specs.declared.LogFault.TheVariants.{Text, NoMemory}
use Rattle.fail_locate.specs.LogWords.{log_grammar}

-- the text says these fails
abbrev pub SaysLog : List ℕ → List (ℕ × ℕ) → Type 0
SaysLog bytes fails = Says log_grammar bytes fails

-- the grammar refuses the text at this line
abbrev pub RefusesLog : List ℕ → ℕ → Type 0
RefusesLog bytes line = Refuses log_grammar bytes line

-- why a log isn't read
abbrev pub log_unread : LogFault → Unread
log_unread (Text line) = unread.Refused line
log_unread NoMemory = unread.NoMemory

abbrev pub fails_value : Vec (ℕ × ℕ) → List (ℕ × ℕ)
fails_value fails = fails.items

-- The fails that the text says; or the line at which the grammar refuses it; or memory ran out.
abbrev pub LogRead : List ℕ → Result (Vec (ℕ × ℕ)) LogFault → Type 0
LogRead bytes result = IsReadText log_grammar fails_value log_unread bytes result
