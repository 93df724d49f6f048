-- The contents that data says of the live tests over the wires of a chip, and what is compared where their response bits are read.
use Rattle.std.specs.Prelude.{ℕ, zero, suc, ◌+◌, Bool, false, List, Option, None, Some, get_or, slice_get}
use Rattle.std.specs.List.{position_or_len}
use Rattle.soc_model.specs.declared.TestId.{TestId}
use Rattle.soc_model.specs.declared.Test.{Test}
use Rattle.soc_model.specs.Chips.{ModuleValue, SocValue, same_test}
use Rattle.soc_model.specs.Lookups.{test_places}
use Rattle.soc_model.specs.Modes.{scan_lengths}
use Rattle.plan_model.specs.Cells.{Cell}
use Rattle.plan_model.specs.Runs.{Content}
use Rattle.test_data.specs.declared.DataBit.{DataBit}
use Rattle.test_data.specs.declared.DataBit.TheVariants.{Zero, One, Any}
use Rattle.test_data.specs.DataWords.{PatternValue, EntryValue}
use Rattle.test_data.specs.Agreement.{driven_bit}
use Rattle.vector_lines.specs.Places.{stimulus_place, response_place}
use Rattle.vector_lines.specs.Marks.{Keys, Marks}

-- ---- a bit of the data

-- the byte for a bit, with `any` for one that may be any
abbrev pub byte_for : (any : ℕ) → DataBit → ℕ
byte_for any Zero = 48
byte_for any One = 49
byte_for any Any = any

-- the byte that stands where a response bit is read: `-` where it may be any
abbrev pub compared_byte : DataBit → ℕ
compared_byte bit = byte_for 45 bit

-- the byte of a number in a bit word
abbrev pub word_byte : (any : ℕ) → List DataBit → (n : ℕ) → ℕ
word_byte any bits n = byte_for any (get_or bits n Any)

-- the pattern of a number, which count from 1
abbrev pub numbered : Option EntryValue → (number : ℕ) → Option PatternValue
numbered None k = None
numbered (Some e) zero = None
numbered (Some e) (suc before) = slice_get e.patterns before

-- the bit of a number in the stimulus and in the response of a pattern; where the data has none, it may be any
abbrev pub load_of : Option PatternValue → (n : ℕ) → DataBit
load_of None n = Any
load_of (Some p) n = get_or p.load n Any

abbrev pub unload_of : Option PatternValue → (n : ℕ) → DataBit
unload_of None n = Any
unload_of (Some p) n = get_or p.unload n Any

-- the bit of the load for the entry at a place
unfoldable pub load_bit : List EntryValue → (place k n : ℕ) → DataBit
load_bit es place k n = load_of (numbered (slice_get es place) k) n

unfoldable pub unload_bit : List EntryValue → (place k n : ℕ) → DataBit
unload_bit es place k n = unload_of (numbered (slice_get es place) k) n

-- the place of the first entry of a name, past the last one where there is none
abbrev pub entry_place : List EntryValue → TestId → ℕ
entry_place es id = position_or_len (λ (e : EntryValue). same_test id e.test) es

-- ---- contents by keys and numbers

-- a test is known by the place of its entry
abbrev pub data_keys : List EntryValue → Keys
data_keys es place at id = entry_place es id

-- what it loads, and what stands where it answers, by the numbers of the bits
abbrev pub data_drive : List EntryValue → (key k n : ℕ) → Bool
data_drive es key k n = driven_bit (load_bit es key k n)

abbrev pub data_mark : List EntryValue → (key k n : ℕ) → ℕ
data_mark es key k n = compared_byte (unload_bit es key k n)

-- ---- the contents of a chip

-- what `f` says of the test of a name and its module, `d` where the chip has none
abbrev pub of_test : {X : Type 0} → (ModuleValue → Test → X) → (d : X) → ModuleValue → Option Test → X
of_test f d m None = d
of_test f d m (Some t) = f m t

abbrev pub of_module : {X : Type 0} → (ModuleValue → Test → X) → (d : X) → Option ModuleValue → (at : ℕ) → X
of_module f d None at = d
of_module f d (Some m) at = of_test f d m (slice_get m.tests at)

abbrev pub of_places : {X : Type 0} → (ModuleValue → Test → X) → (d : X) → SocValue → Option (ℕ × ℕ) → X
of_places f d soc None = d
of_places f d soc (Some places) = of_module f d (slice_get soc.modules places.0) places.1

abbrev pub of_named : {X : Type 0} → (ModuleValue → Test → X) → (d : X) → SocValue → TestId → X
of_named f d soc id = of_places f d soc (test_places soc id)

-- the data's bit of a cell of a test, in a stimulus and in a response
abbrev pub load_at : List EntryValue → TestId → (k : ℕ) → Cell → ModuleValue → Test → DataBit
load_at es id k x m t = load_bit es (entry_place es id) k (stimulus_place (m.inputs + m.bidirs) (scan_lengths m t.scan) x)

abbrev pub unload_at : List EntryValue → TestId → (k : ℕ) → Cell → ModuleValue → Test → DataBit
unload_at es id k x m t = unload_bit es (entry_place es id) k (response_place (scan_lengths m t.scan) x)

-- A content that agrees with the data: 0 for each bit that may be any, and in all cells at first.
unfoldable pub data_content : SocValue → List EntryValue → Content
data_content soc es = record {
  initial = λ id x. false;
  stimulus = λ id k x. of_named (λ m t. driven_bit (load_at es id k x m t)) false soc id;
  response = λ id k x. of_named (λ m t. driven_bit (unload_at es id k x m t)) false soc id;
}

-- what is compared where a response bit is read, by its test, its pattern and its cell
unfoldable pub data_marks : SocValue → List EntryValue → Marks
data_marks soc es id k x = of_named (λ m t. compared_byte (unload_at es id k x m t)) 45 soc id
