-- What was read of a log, word by word.
use Rattle.std.specs.Prelude.{ℕ, List, [], ◌∷◌, ◌++◌, Option, None, Some, nat_eq, if◌then◌else◌}
use Rattle.keyword_text.specs.declared.tokens.Token.{Token}
use Rattle.keyword_text.specs.declared.tokens.Token.TheVariants.{Key, Number}
use Rattle.keyword_text.specs.Machines.{Machine}
use Rattle.fail_locate.specs.declared.log.LogText.{LogText}
use Rattle.fail_locate.specs.declared.log.LogText.TheVariants as text
use Rattle.fail_locate.specs.declared.tokens.Keyword.{Keyword}
use Rattle.fail_locate.specs.declared.tokens.Keyword.TheVariants as key

-- nothing; `Log`; some whole fails; these and `Fail`; these and `Fail` with a cycle
pub data State : Type 0 where
  empty : State
  titled : State
  between : (fails : List (ℕ × ℕ)) → State
  begun : (fails : List (ℕ × ℕ)) → State
  timed : (fails : List (ℕ × ℕ)) → (cycle : ℕ) → State

abbrev pub state_of : LogText → State
state_of (text.Empty alloc) = empty
state_of (text.Titled alloc) = titled
state_of (text.Between fails) = between fails.items
state_of (text.Begun fails) = begun fails.items
state_of (text.Timed fails cycle) = timed fails.items cycle

-- the next word
abbrev pub after : State → Token Keyword → Option State
after empty (Key key.Log) = Some titled
after empty (Key key.Fail) = None
after empty (Number n) = None
after titled (Key k) = None
after titled (Number n) = if nat_eq n 1 then Some (between []) else None
after (between fails) (Key key.Log) = None
after (between fails) (Key key.Fail) = Some (begun fails)
after (between fails) (Number n) = None
after (begun fails) (Key k) = None
after (begun fails) (Number n) = Some (timed fails n)
after (timed fails cycle) (Key k) = None
after (timed fails cycle) (Number n) = Some (between (fails ++ (cycle, n) ∷ []))

-- the fails, where a log may end here
abbrev pub ended : State → Option (List (ℕ × ℕ))
ended empty = None
ended titled = None
ended (between fails) = Some fails
ended (begun fails) = None
ended (timed fails cycle) = None

abbrev pub log_machine : Machine Keyword State (List (ℕ × ℕ))
log_machine = record { start = empty; step = after; end = ended }
