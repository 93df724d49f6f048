-- What `shift` says of a program, and the lines that refuse one.
use Rattle.std.specs.Prelude.{◌≡◌, ◌⊎◌, ℕ, ◌≤◌, ◌++◌, List, [], Option, None, Some, codes, decimal, length, slice_get, IsTrue, if◌then◌else◌}
use Rattle.soc_model.specs.declared.Test.{Test}
use Rattle.soc_model.specs.declared.TestId.{TestId}
use Rattle.soc_model.specs.Chips.{ModuleValue, SocValue}
use Rattle.soc_model.specs.Lookups.{test_places}
use Rattle.soc_model.specs.Modes.{is_tam}
use Rattle.plan_model.specs.Plans.{PlanValue, WrapperValue, wraps, of_first, chains_of, operations_of}
use Rattle.shift_program.specs.declared.ProgramFault.{ProgramFault}
use Rattle.shift_program.specs.declared.ProgramFault.TheVariants as fault
use Rattle.shift_program.specs.Programs.{ProgramValue, WrappedTest, wrapped_test, operations}
use Rattle.shift_program.specs.RightPrograms.{AreRight}
use Rattle.shift_program.specs.Faults.{needed_for, place_of, IsFault}
use Rattle.shift_program.specs.Answers.{IsReadProgram, RefusesText}
use Rattle.commands.specs.declared.FileKind.TheVariants.{Program as ProgramFile}
use Rattle.commands.specs.declared.Status.{Status}
use Rattle.commands.specs.declared.Status.TheVariants.{Done, Refused}
use Rattle.commands.specs.declared.Verdict.{Verdict}
use Rattle.commands.specs.declared.Verdict.TheVariants.{Answered, CannotRead, NoMemory}
use Rattle.commands.specs.Procedures.{Procedure, Read}
use Rattle.commands.specs.Texts.{is_line, test_text, two_numbers}

-- ---- the test of a program

abbrev pub tam_only : ModuleValue → Option Test → Option (ModuleValue × Test)
tam_only m None = None
tam_only m (Some t) = if is_tam t then Some (m, t) else None

abbrev pub test_in : Option ModuleValue → ℕ → Option (ModuleValue × Test)
test_in None at = None
test_in (Some m) at = tam_only m (slice_get m.tests at)

abbrev pub test_at : SocValue → Option (ℕ × ℕ) → Option (ModuleValue × Test)
test_at chip None = None
test_at chip (Some at) = test_in (slice_get chip.modules at.0) at.1

-- the live test over the wires of a name, with its module, where the chip has one
abbrev pub named_test : SocValue → TestId → Option (ModuleValue × Test)
named_test chip id = test_at chip (test_places chip id)

-- the wrapper of a plan for a test of a module
abbrev pub wrapper_for : PlanValue → ModuleValue → Test → WrapperValue
wrapper_for plan m t = record {
  «module» = m.number;
  scan = t.scan;
  chains = of_first (wraps m.number t.scan) (λ (w : WrapperValue). w.chains) [] plan.wrappers;
}

-- the test in that wrapper
abbrev pub planned_for : PlanValue → ModuleValue → Test → WrappedTest
planned_for plan m t = wrapped_test m t (wrapper_for plan m t)

-- the cycles of the test in the plan
abbrev pub test_cycles : PlanValue → ModuleValue → Test → ℕ
test_cycles plan m t = length (operations_of m t (chains_of plan m t))

-- ---- programs that are right

-- a program is right for its test, and takes at least the test's cycles
pub record IsRightFor (plan : PlanValue) (program : ProgramValue) (m : ModuleValue) (t : Test) : Type 0 where
  pub right : AreRight (planned_for plan m t) (operations program.entries)
  pub least : test_cycles plan m t ≤ length (operations program.entries)

abbrev pub RightIn : PlanValue → ProgramValue → Option (ModuleValue × Test) → Type 0
RightIn plan program None = ⊥
RightIn plan program (Some found) = IsRightFor plan program found.0 found.1

-- the program names a live test over the wires, and is right for it
abbrev pub IsRightProgram : SocValue → PlanValue → ProgramValue → Type 0
IsRightProgram chip plan program = RightIn plan program (named_test chip program.test)

-- the text says the program, which is right
abbrev pub SaysRight : SocValue → PlanValue → List ℕ → ProgramValue → Type 0
SaysRight chip plan bytes program = IsReadProgram bytes program × IsRightProgram chip plan program

abbrev pub cycles_in : PlanValue → Option (ModuleValue × Test) → ℕ
cycles_in plan None = 0
cycles_in plan (Some found) = test_cycles plan found.0 found.1

-- the operations of a program, and the cycles of its test
abbrev pub accepted_with : (done cycles : ℕ) → List ℕ
accepted_with done cycles = codes "accepted " ++ two_numbers done cycles ++ codes "\n"

abbrev pub accepted_program : SocValue → PlanValue → ProgramValue → List ℕ
accepted_program chip plan program = accepted_with (length (operations program.entries)) (cycles_in plan (named_test chip program.test))

-- ---- programs that are refused

-- at a line of their text
abbrev pub program_line : ℕ → List ℕ
program_line line = codes "refused program line " ++ decimal line ++ codes "\n"

-- for the test that they name
abbrev pub program_test_line : TestId → List ℕ
program_test_line id = codes "refused program test " ++ test_text id ++ codes "\n"

abbrev pub fault_word : ProgramFault → List ℕ
fault_word (fault.Setup i) = codes " setup"
fault_word (fault.Pattern i) = codes " pattern"
fault_word (fault.Load i) = codes " load"
fault_word (fault.Unload i) = codes " unload"
fault_word (fault.Missing i) = codes " missing"

-- at an entry, or at the end
abbrev pub program_fault_line : ProgramFault → List ℕ
program_fault_line f = codes "refused program entry " ++ decimal (place_of f) ++ fault_word f ++ codes "\n"

abbrev pub RefusedIn : PlanValue → ProgramValue → Option (ModuleValue × Test) → List ℕ → Type 0
RefusedIn plan program None text = text ≡ program_test_line program.test
RefusedIn plan program (Some found) text =
    (f : ProgramFault) × IsFault (needed_for (planned_for plan found.0 found.1)) program.entries f × (text ≡ program_fault_line f)

-- the program's text is refused at a line; or it names no live test over the wires; or it has a fault
abbrev pub RefusesProgram : SocValue → PlanValue → List ℕ → List ℕ → Type 0
RefusesProgram chip plan bytes text =
    ((line : ℕ) × RefusesText bytes line × (text ≡ program_line line))
    ⊎ ((program : ProgramValue) × IsReadProgram bytes program × RefusedIn plan program (named_test chip program.test) text)

-- a file with a program that is right for its test in an accepted plan
abbrev pub with_program : SocValue → PlanValue → (program : List ℕ) → (ProgramValue → Procedure) → Procedure
with_program chip value program next = Read ProgramFile (SaysRight chip value) (RefusesProgram chip value) program next

-- ---- what is answered

-- a program is right and accepted, or refused in one line
abbrev pub JudgesAs : PlanValue → ProgramValue → Option (ModuleValue × Test) → Status → List ℕ → Type 0
JudgesAs plan program found status text =
    ((status ≡ Done) × RightIn plan program found × (text ≡ accepted_with (length (operations program.entries)) (cycles_in plan found)))
    ⊎ ((status ≡ Refused) × RefusedIn plan program found text × IsTrue (is_line text))

-- a verdict judges a program for its test, or wants memory
abbrev pub Judges : PlanValue → ProgramValue → Option (ModuleValue × Test) → Verdict → Type 0
Judges plan program found (Answered status text) = JudgesAs plan program found status text.items
Judges plan program found (CannotRead file) = ⊥
Judges plan program found NoMemory = Unit {0}
