-- What was read of test data, word by word.
use Rattle.std.specs.Prelude.{◌≡◌, ℕ, List, [], ◌∷◌, ◌++◌, Bool, false, nat_eq, codes, Option, None, Some, option_map, if◌then◌else◌}
use Rattle.outside.specs.Words.{Word, same_letters}
use Rattle.outside.specs.Decimal.{number_of}
use Rattle.outside.specs.Runs.{run_by}
use Rattle.soc_model.specs.declared.TestId.{TestId}
use Rattle.plan_model.specs.declared.TheConstants.{PLAN_NUMBER_MOST}
use Rattle.test_data.specs.declared.DataBit.{DataBit}
use Rattle.test_data.specs.DataWords.{bit_word, PatternValue, EntryValue}

-- nothing; `Data`; `Data 1`; whole entries and `Test`; these with the module's number; whole entries and one with whole patterns;
-- these with a load word
pub data State : Type 0 where
  empty : State
  titled : State
  begun : State
  headed : (es : List EntryValue) → State
  numbered : (es : List EntryValue) → (number : ℕ) → State
  within : (es : List EntryValue) → (id : TestId) → (ps : List PatternValue) → State
  loaded : (es : List EntryValue) → (id : TestId) → (ps : List PatternValue) → (load : List DataBit) → State

-- an entry whose patterns are whole
abbrev pub entry_of : TestId → List PatternValue → EntryValue
entry_of id ps = record { test = id; patterns = ps }

abbrev pub name_of : (number test : ℕ) → TestId
name_of number test = record { «module» = number; test = test }

-- a pattern more
abbrev pub with_pattern : List PatternValue → (load unload : List DataBit) → List PatternValue
with_pattern ps load unload = ps ++ (record { load = load; unload = unload }) ∷ []

-- the number is 1
abbrev pub is_version : Option ℕ → Bool
is_version None = false
is_version (Some n) = nat_eq n 1

abbrev pub is_title : Word → Bool
is_title w = same_letters w.0 (codes "Data")

abbrev pub is_header : Word → Bool
is_header w = same_letters w.0 (codes "Test")

abbrev pub number_in : Word → Option ℕ
number_in w = number_of w.0 PLAN_NUMBER_MOST

-- the state after the next word, where a text goes on so
abbrev pub after : State → Word → Option State
after empty w = if is_title w then Some titled else None
after titled w = if is_version (number_in w) then Some begun else None
after begun w = if is_header w then Some (headed []) else None
after (headed es) w = option_map (λ n. numbered es n) (number_in w)
after (numbered es number) w = option_map (λ n. within es (name_of number n) []) (number_in w)
after (within es id ps) w =
    if is_header w then Some (headed (es ++ entry_of id ps ∷ [])) else option_map (λ bs. loaded es id ps bs) (bit_word w.0)
after (loaded es id ps load) w = option_map (λ bs. within es id (with_pattern ps load bs)) (bit_word w.0)

-- the entries, where a text may end here
abbrev pub ended : State → Option (List EntryValue)
ended empty = None
ended titled = None
ended begun = Some []
ended (headed es) = None
ended (numbered es number) = None
ended (within es id ps) = Some (es ++ entry_of id ps ∷ [])
ended (loaded es id ps load) = None

-- the words were read up to this state
abbrev pub IsAfterWords : State → List Word → Type 0
IsAfterWords s ws = run_by after (Some empty) ws ≡ Some s
