-- The words of test data, and the data that they say: bits that are driven and compared, test by test and pattern by pattern.
use Rattle.std.specs.Prelude.{◌≡◌, ℕ, Bool, true, false, List, [], ◌∷◌, ◌&&◌, ◌||◌, nat_eq, map, codes, Option, None, Some, if◌then◌else◌}
use Rattle.std.specs.List.{flat_map, list_all}
use Rattle.std.specs.Cmp.Lexicographic.{pointwise}
use Rattle.outside.specs.Words.{Word, words_of, same_letters}
use Rattle.outside.specs.Decimal.{number_of}
use Rattle.outside.specs.Grammars.{IsRefused}
use Rattle.soc_model.specs.declared.TestId.{TestId}
use Rattle.plan_model.specs.declared.TheConstants.{PLAN_NUMBER_MOST}
use Rattle.test_data.specs.declared.DataBit.{DataBit}
use Rattle.test_data.specs.declared.DataBit.TheVariants.{Zero, One, Any}

-- ---- bit words

-- whether the byte is `0`, `1`, `X` or `x`
abbrev pub is_bit : ℕ → Bool
is_bit b = nat_eq b 48 || (nat_eq b 49 || (nat_eq b 88 || nat_eq b 120))

-- the bit that such a byte stands for
abbrev pub bit_of : ℕ → DataBit
bit_of b = if nat_eq b 48 then Zero else (if nat_eq b 49 then One else Any)

-- the word is `-`, which stands for no bits
abbrev pub is_dash : List ℕ → Bool
is_dash word = pointwise nat_eq word (codes "-")

-- the word is one or more of these bytes
abbrev pub is_all_bits : List ℕ → Bool
is_all_bits [] = false
is_all_bits (b ∷ bs) = is_bit b && list_all is_bit bs

-- the bits that a word stands for, where it is a bit word; it may have any length
unfoldable pub bit_word : List ℕ → Option (List DataBit)
bit_word word = if is_all_bits word then Some (map bit_of word) else (if is_dash word then Some [] else None)

-- ---- what is said

-- of a pattern: the bits of its stimulus, and those of its response
pub record PatternValue : Type 0 where
  pub load : List DataBit
  pub unload : List DataBit

-- of a test: its patterns in their order
pub record EntryValue : Type 0 where
  pub test : TestId
  pub patterns : List PatternValue

-- ---- the words that say it

-- what a word is to be: `Data`, `Test`, a number, or bits
pub data DataToken : Type 0 where
  title : DataToken
  header : DataToken
  number : (n : ℕ) → DataToken
  bits : (bs : List DataBit) → DataToken

-- the word is that
abbrev pub SaysToken : List ℕ → DataToken → Type 0
SaysToken word title = same_letters word (codes "Data") ≡ true
SaysToken word header = same_letters word (codes "Test") ≡ true
SaysToken word (number n) = number_of word PLAN_NUMBER_MOST ≡ Some n
SaysToken word (bits bs) = bit_word word ≡ Some bs

-- the words are those, one by one
abbrev pub SayTokens : List Word → List DataToken → Type 0
SayTokens [] [] = Unit {0}
SayTokens [] (t ∷ ts) = ⊥
SayTokens (w ∷ ws) [] = ⊥
SayTokens (w ∷ ws) (t ∷ ts) = SaysToken w.0 t × SayTokens ws ts

-- a pattern is a load word and an unload word
abbrev pub pattern_tokens : PatternValue → List DataToken
pattern_tokens p = bits p.load ∷ bits p.unload ∷ []

-- an entry is `Test`, the numbers of the module and of the test, and patterns
abbrev pub entry_tokens : EntryValue → List DataToken
entry_tokens e = header ∷ number e.test.«module» ∷ number e.test.test ∷ flat_map pattern_tokens e.patterns

-- a text is `Data 1` and entries
abbrev pub data_tokens : List EntryValue → List DataToken
data_tokens es = title ∷ number 1 ∷ flat_map entry_tokens es

-- the words say these entries
abbrev pub IsDataText : List Word → List EntryValue → Type 0
IsDataText ws es = SayTokens ws (data_tokens es)

-- the set of whole lists of words
abbrev pub InData : List Word → Type 0
InData ws = (es : List EntryValue) × IsDataText ws es

-- the text says these entries
abbrev pub SaysData : List ℕ → List EntryValue → Type 0
SaysData bytes es = IsDataText (words_of bytes) es

-- the text is refused at this line
abbrev pub RefusesData : List ℕ → ℕ → Type 0
RefusesData bytes line = IsRefused InData bytes line
