-- Programs as plain values, and the operations that they stand for.
use Rattle.std.specs.Prelude.{ℕ, ◌≤◌, List, [], ◌∷◌, replicate}
use Rattle.std.specs.List.{flat_map}
use Rattle.soc_model.specs.declared.TestId.{TestId}
use Rattle.soc_model.specs.declared.Test.{Test}
use Rattle.soc_model.specs.Chips.{ModuleValue}
use Rattle.plan_model.specs.Cells.{Cell, chain_cells}
use Rattle.plan_model.specs.Operations.{Operation, Setup, Shift, Capture}
use Rattle.plan_model.specs.Plans.{WrapperValue}
use Rattle.shift_program.specs.declared.Entry.{Entry}
use Rattle.shift_program.specs.declared.Entry.TheVariants as entry
use Rattle.shift_program.specs.declared.Program.{Program}

-- a program, without where its entries lie in memory
pub record ProgramValue : Type 0 where
  pub test : TestId
  pub entries : List Entry

abbrev pub program_value : Program → ProgramValue
program_value p = record { test = p.test; entries = p.entries.items }

-- the operations of an entry, one a cycle; a Rest rests as the setup of a test does
abbrev pub entry_operations : Entry → List Operation
entry_operations (entry.Rest cycles) = replicate cycles Setup
entry_operations (entry.Shift cycles) = replicate cycles Shift
entry_operations (entry.Capture pattern) = Capture pattern ∷ []

-- the operations of a program
abbrev pub operations : List Entry → List Operation
operations entries = flat_map entry_operations entries

-- the entry takes at least one cycle
abbrev pub IsLasting : Entry → Type 0
IsLasting (entry.Rest cycles) = 1 ≤ cycles
IsLasting (entry.Shift cycles) = 1 ≤ cycles
IsLasting (entry.Capture pattern) = Unit {0}

-- a test over the wires as its program meets it: the cycles of its module's setup, its patterns, and the chains of its wrapper
pub record WrappedTest : Type 0 where
  pub setup : ℕ
  pub patterns : ℕ
  pub chains : List (List Cell)

-- a test of a module in a wrapper
abbrev pub wrapped_test : ModuleValue → Test → WrapperValue → WrappedTest
wrapped_test m t w = record { setup = m.setup; patterns = t.patterns; chains = chain_cells m w.scan w.chains }
