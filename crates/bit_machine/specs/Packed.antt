-- Bits in words of 64, the first one lowest.
use Rattle.std.specs.Prelude.{ℕ, ◌/◌, ◌%◌, Bool, List, map, nat_eq, slice_index, ◌≡◌, ◌+◌, ◌<◌, length, false, nat_lt, if◌then◌else◌}
use Rattle.std.specs.List.{range_with_len}
use Rattle.std.specs.Int.{bit_at}
use Rattle.vector_lines.specs.Numbers.{line_bit}
use Rattle.vector_lines.specs.declared.made.Line.{Line}

-- a bit of a word is set
abbrev pub is_set : (word i : ℕ) → Bool
is_set word i = nat_eq (bit_at word i) 1

-- the bit at a place
abbrev pub word_bit : (words : List ℕ) → ℕ → Bool
word_bit words i = is_set (slice_index words (i / 64)) (i % 64)

-- the first `count` bits
abbrev pub packed : (words : List ℕ) (count : ℕ) → List Bool
packed words count = map (word_bit words) (range_with_len 0 count)

-- the bit of the number at a place, 0 past the last one
abbrev pub bit_at_place : Line → List ℕ → ℕ → Bool
bit_at_place line numbers i = if nat_lt i (length numbers) then line_bit line (slice_index numbers i) else false

-- the word has the bits of the numbers from a place on
abbrev pub IsLineWord : Line → List ℕ → (first word : ℕ) → Type 0
IsLineWord line numbers first word = (i : ℕ) → i < 64 → is_set word i ≡ bit_at_place line numbers (first + i)
