-- Tests and wrappers that are short.
use Rattle.std.specs.Prelude.{◌≡◌, ℕ, ◌+◌, ◌*◌, ◌^◌, ◌≤◌, Bool, true, Some, length, slice_get}
use Rattle.soc_model.specs.declared.Test.{Test}
use Rattle.soc_model.specs.Chips.{ModuleValue, is_live}
use Rattle.plan_model.specs.Cells.{IsProper}
use Rattle.plan_model.specs.Listing.{module_size}
use Rattle.plan_model.specs.Plans.{WrapperValue}
use Rattle.width_table.specs.Times.{time_in}

-- no live test of the module over the wires is too long to be timed
abbrev pub HasShortTests : ModuleValue → Type 0
HasShortTests m =
    (k : ℕ) (t : Test) → slice_get m.tests k ≡ Some t → is_live t ≡ true → t.tam ≡ true →
    m.setup + t.patterns * module_size m ≤ 10 ^ 18

-- a wrapper is proper for its mode of the module
abbrev pub IsProperWrapper : ModuleValue → WrapperValue → Type 0
IsProperWrapper m w = IsProper m w.scan w.chains

-- the cycles of the tests of its mode in it, together
abbrev pub time_within : ModuleValue → WrapperValue → ℕ
time_within m w = time_in m w.scan w.chains

-- A proper wrapper for a mode of the module, of 1 to `width` chains. The mode's tests take at most `most` cycles in it,
-- together.
pub record IsShortWrapper (m : ModuleValue) (scan : Bool) (width most : ℕ) (w : WrapperValue) : Type 0 where
  pub named : w.«module» ≡ m.number
  pub mode : w.scan ≡ scan
  pub proper : IsProper m scan w.chains
  pub some_chain : 1 ≤ length w.chains
  pub few_chains : length w.chains ≤ width
  pub no_longer : time_in m scan w.chains ≤ most
