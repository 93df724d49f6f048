-- The test data that contents are: the bits of all patterns of the live tests over the wires, none of which may be any.
use Rattle.std.specs.Prelude.{ℕ, Bool, true, false, List, map}
use Rattle.std.specs.List.{flat_map, filter, range_with_len}
use Rattle.soc_model.specs.declared.Test.{Test}
use Rattle.soc_model.specs.Chips.{ModuleValue, SocValue}
use Rattle.soc_model.specs.Modes.{is_tam}
use Rattle.plan_model.specs.Cells.{Cell, stimulus_cells, response_cells}
use Rattle.plan_model.specs.Runs.{Content}
use Rattle.test_data.specs.declared.DataBit.{DataBit}
use Rattle.test_data.specs.declared.DataBit.TheVariants.{Zero, One}
use Rattle.test_data.specs.DataWords.{PatternValue, EntryValue}
use Rattle.test_data.specs.Suiting.{name_in}

abbrev pub data_bit : Bool → DataBit
data_bit true = One
data_bit false = Zero

-- the bits of a pattern of a test: those of its stimulus, and those of its response, each in the order of contents
abbrev pub pattern_of : Content → ModuleValue → Test → (pattern : ℕ) → PatternValue
pattern_of content m t k = record {
  load = map (λ (x : Cell). data_bit (content.stimulus (name_in m t) k x)) (stimulus_cells m t.scan);
  unload = map (λ (x : Cell). data_bit (content.response (name_in m t) k x)) (response_cells m t.scan);
}

-- of a test: all its patterns, which are numbered from 1
abbrev pub entry_of : Content → ModuleValue → Test → EntryValue
entry_of content m t = record { test = name_in m t; patterns = map (pattern_of content m t) (range_with_len 1 t.patterns) }

-- of the live tests over the wires of a module, and of the chip
abbrev pub entries_in : Content → ModuleValue → List EntryValue
entries_in content m = map (entry_of content m) (filter is_tam m.tests)

unfoldable pub entries_of : SocValue → Content → List EntryValue
entries_of soc content = flat_map (entries_in content) soc.modules
