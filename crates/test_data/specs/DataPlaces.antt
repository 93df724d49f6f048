-- Where the words of test data stand in its text, and what they say there.
use Rattle.std.specs.Prelude.{◌≡◌, ℕ, ◌+◌, ◌≤◌, ◌<◌, ◌^◌, List, ◌∷◌, map, take, drop, length, slice_get, Option, None, Some, Result}
use Rattle.std.specs.Global.{Vec}
use Rattle.outside.specs.Words.{words_left}
use Rattle.outside.specs.Grammars.{IsRead}
use Rattle.outside.specs.declared.reading.Unread.{Unread}
use Rattle.soc_model.specs.declared.TestId.{TestId}
use Rattle.test_data.specs.declared.DataBit.{DataBit}
use Rattle.test_data.specs.declared.places.BitPlace.{BitPlace}
use Rattle.test_data.specs.declared.places.PatternPlaces.{PatternPlaces}
use Rattle.test_data.specs.declared.places.TestEntry.{TestEntry}
use Rattle.test_data.specs.declared.places.PatternWords.{PatternWords}
use Rattle.test_data.specs.declared.spots.WordSpot.{WordSpot}
use Rattle.test_data.specs.declared.text.DataText.{DataText}
use Rattle.test_data.specs.declared.text.DataText.TheVariants as text
use Rattle.test_data.specs.DataWords.{is_all_bits, bit_of, PatternValue, EntryValue, InData, IsDataText}
use Rattle.test_data.specs.DataReads.{State, empty, titled, begun, headed, numbered, within, loaded}

-- ---- what is kept of a text

-- the bytes of a bit word; `-` is kept as no bytes
abbrev pub bytes_in : List ℕ → BitPlace → List ℕ
bytes_in bytes p = take p.count (drop p.at bytes)

abbrev pub bits_in : List ℕ → BitPlace → List DataBit
bits_in bytes p = map bit_of (bytes_in bytes p)

abbrev pub pattern_in : List ℕ → PatternPlaces → PatternValue
pattern_in bytes p = record { load = bits_in bytes p.load; unload = bits_in bytes p.unload }

abbrev pub patterns_in : List ℕ → List PatternPlaces → List PatternValue
patterns_in bytes ps = map (pattern_in bytes) ps

abbrev pub entry_in : List ℕ → TestEntry → EntryValue
entry_in bytes e = record { test = e.test; patterns = patterns_in bytes e.patterns.items }

abbrev pub entries_in : List ℕ → List TestEntry → List EntryValue
entries_in bytes es = map (entry_in bytes) es

-- the names of these entries
abbrev pub kept_names : List TestEntry → List TestId
kept_names es = map (λ (e : TestEntry). e.test) es

abbrev pub kept_entries : List ℕ → Vec TestEntry → List EntryValue
kept_entries bytes es = entries_in bytes es.items

-- what was read of a text so far
abbrev pub state_in : List ℕ → DataText → State
state_in bytes text.Empty = empty
state_in bytes text.Titled = titled
state_in bytes text.Begun = begun
state_in bytes (text.Headed es) = headed (entries_in bytes es.items)
state_in bytes (text.Numbered es number) = numbered (entries_in bytes es.items) number
state_in bytes (text.Within es id ps) = within (entries_in bytes es.items) id (patterns_in bytes ps.items)
state_in bytes (text.Loaded es id ps load) = loaded (entries_in bytes es.items) id (patterns_in bytes ps.items) (bits_in bytes load)

-- the text says these entries, as they are kept; or it is refused at that line; or memory ran out
abbrev pub IsReadAs : List ℕ → Result (Vec TestEntry) Unread → Type 0
IsReadAs bytes result = IsRead InData (λ ws es. IsDataText ws (kept_entries bytes es)) bytes result

-- ---- the next word

abbrev pub word_at : List ℕ → WordSpot → List ℕ
word_at bytes s = take s.len (drop s.from bytes)

-- it has bytes in the text, and whether each of them is a bit
pub record IsWordSpot (bytes : List ℕ) (s : WordSpot) : Type 0 where
  pub some : 1 ≤ s.len
  pub ends : s.from + s.len ≤ length bytes
  pub all_bits : s.all_bits ≡ is_all_bits (word_at bytes s)

-- it is the next one of a text of which the bytes before a place were read
pub record IsNextWord (bytes : List ℕ) (place line : ℕ) (s : WordSpot) : Type 0 where
  pub words : words_left line (drop place bytes) ≡ (word_at bytes s, s.line) ∷ words_left s.line (drop (s.from + s.len) bytes)
  pub spot : IsWordSpot bytes s
  pub later : place ≤ s.from
  pub small : s.line + length (drop (s.from + s.len) bytes) < 2 ^ 64

-- ---- what is handed out

abbrev pub bits_value : PatternWords → PatternValue
bits_value p = record { load = map bit_of p.load.now; unload = map bit_of p.unload.now }

abbrev pub pattern_of : Option EntryValue → ℕ → Option PatternValue
pattern_of None k = None
pattern_of (Some e) k = slice_get e.patterns k

-- the pattern at a place of the entry at a place
abbrev pub pattern_at : List EntryValue → (entry pattern : ℕ) → Option PatternValue
pattern_at es entry k = pattern_of (slice_get es entry) k
