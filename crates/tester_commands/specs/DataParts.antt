-- What is written of a test, part by part, and how it is made of the seed.
use Rattle.std.specs.Prelude.{ℕ, ◌+◌, ◌*◌, ◌%◌, ◌<◌, ◌≤◌, ◌^◌, List, [], ◌∷◌, ◌++◌, map, max, length, if◌then◌else◌}
use Rattle.std.specs.List.{flat_map, range_with_len}
use Rattle.soc_model.specs.declared.Test.{Test}
use Rattle.soc_model.specs.Chips.{ModuleValue}
use Rattle.soc_model.specs.Modes.{is_tam}
use Rattle.vector_lines.specs.Made.{made_from}
use Rattle.vector_lines.specs.Numbers.{line_bit}
use Rattle.vector_lines.specs.declared.made.Line.{Line}
use Rattle.test_data.specs.declared.misfits.Wanted.{Wanted}
use Rattle.test_data.specs.declared.DataBit.{DataBit}
use Rattle.test_data.specs.DataWords.{PatternValue}
use Rattle.test_data.specs.Suiting.{wanted_for, name_in}
use Rattle.tester_commands.specs.DataText.{bit_byte, pattern_line, test_line}
use Rattle.tester_commands.specs.ContentEntries.{data_bit}
use Rattle.tester_commands.specs.declared.parts.Part.{Part}

-- the first line of a test, what the seed and the places give to its bits, and what the chip wants of its data
pub record PartValue : Type 0 where
  pub head : List ℕ
  pub base : ℕ
  pub wanted : Wanted

abbrev pub part_value : Part → PartValue
part_value p = record { head = p.head.items; base = p.base; wanted = p.wanted }

-- ---- the bits of a pattern

-- the byte of a bit, by its number
abbrev pub made_byte : Line → ℕ → ℕ
made_byte line n = bit_byte (data_bit (line_bit line n))

-- the bits of a pattern of a side: 0 for a stimulus, 1 for a response
abbrev pub made_bits : (base pattern side count : ℕ) → List DataBit
made_bits base k side count = map (λ n. data_bit (made_from base k n side)) (range_with_len 0 count)

abbrev pub made_pattern : (base : ℕ) → Wanted → (pattern : ℕ) → PatternValue
made_pattern base wanted k = record { load = made_bits base k 0 wanted.load; unload = made_bits base k 1 wanted.unload }

-- the lines of patterns one after another
abbrev pub made_lines : (base : ℕ) → Wanted → (from count : ℕ) → List ℕ
made_lines base wanted from count = flat_map (λ k. pattern_line (made_pattern base wanted k)) (range_with_len from count)

-- what is written of a test, and of several
abbrev pub part_text : PartValue → List ℕ
part_text p = p.head ++ made_lines p.base p.wanted 1 p.wanted.patterns

abbrev pub parts_text : List PartValue → List ℕ
parts_text ps = flat_map part_text ps

-- ---- the parts of a chip

-- of the test at a place of the module at a place
abbrev pub part_of : (seed place : ℕ) → ModuleValue → (at : ℕ) → Test → PartValue
part_of seed place m at t = record { head = test_line (name_in m t); base = (seed + 31 * place + 17 * at) % 997; wanted = wanted_for m t }

-- of the tests from a place on
abbrev pub parts_in : (seed place : ℕ) → ModuleValue → (at : ℕ) → List Test → List PartValue
parts_in seed place m at [] = []
parts_in seed place m at (t ∷ ts) =
    if is_tam t then part_of seed place m at t ∷ parts_in seed place m (at + 1) ts else parts_in seed place m (at + 1) ts

-- of the modules from a place on
abbrev pub parts_from : (seed place : ℕ) → List ModuleValue → List PartValue
parts_from seed place [] = []
parts_from seed place (m ∷ ms) = parts_in seed place m 0 m.tests ++ parts_from seed (place + 1) ms

-- ---- their length

-- the bytes of a bit word
abbrev pub word_length : ℕ → ℕ
word_length count = max 1 count

abbrev pub part_length : PartValue → ℕ
part_length p = length p.head + p.wanted.patterns * (word_length p.wanted.load + word_length p.wanted.unload + 2)

-- the numbers of a part are small, so that its length fits
pub record IsSmallPart (p : PartValue) : Type 0 where
  pub base : p.base < 997
  pub patterns : p.wanted.patterns ≤ 10 ^ 12
  pub load : p.wanted.load ≤ 10 ^ 16
  pub unload : p.wanted.unload ≤ 10 ^ 16
