-- How test data is written.
use Rattle.std.specs.Prelude.{ℕ, List, [], ◌∷◌, ◌++◌, map, codes, decimal}
use Rattle.std.specs.List.{flat_map}
use Rattle.soc_model.specs.declared.TestId.{TestId}
use Rattle.test_data.specs.declared.DataBit.{DataBit}
use Rattle.test_data.specs.declared.DataBit.TheVariants.{Zero, One, Any}
use Rattle.test_data.specs.DataWords.{PatternValue, EntryValue}

abbrev pub bit_byte : DataBit → ℕ
bit_byte Zero = 48
bit_byte One = 49
bit_byte Any = 120

-- a bit word: a byte for each bit, `-` where there is none
abbrev pub bits_word : List DataBit → List ℕ
bits_word [] = codes "-"
bits_word (b ∷ bs) = map bit_byte (b ∷ bs)

-- the line of a pattern: its load word, a space and its unload word
abbrev pub pattern_line : PatternValue → List ℕ
pattern_line p = bits_word p.load ++ (codes " " ++ (bits_word p.unload ++ codes "\n"))

-- `Test m t`
abbrev pub test_line : TestId → List ℕ
test_line id = codes "Test " ++ (decimal id.«module» ++ (codes " " ++ (decimal id.test ++ codes "\n")))

-- the line of a test, and those of its patterns
abbrev pub entry_lines : EntryValue → List ℕ
entry_lines e = test_line e.test ++ flat_map pattern_line e.patterns

-- the whole text
unfoldable pub data_text : List EntryValue → List ℕ
data_text es = codes "Data 1\n" ++ flat_map entry_lines es
