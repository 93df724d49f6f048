-- What is settled of programs and of their texts.
use Rattle.std.specs.Prelude.{◌≡◌, ◌⊎◌, ℕ, ◌≤◌, List, length}
use Rattle.std.specs.List.{All}
use Rattle.soc_model.specs.declared.Test.{Test}
use Rattle.soc_model.specs.Chips.{ModuleValue}
use Rattle.plan_model.specs.Operations.{ops_of}
use Rattle.plan_model.specs.Plans.{WrapperValue, si_of, so_of}
use Rattle.shift_program.specs.declared.Entry.{Entry}
use Rattle.shift_program.specs.declared.ProgramFault.{ProgramFault}
use Rattle.shift_program.specs.Programs.{wrapped_test, operations, IsLasting}
use Rattle.shift_program.specs.RightPrograms.{AreRight}
use Rattle.shift_program.specs.Faults.{Needed, needed_for, IsFault, IsFaultless}
use Rattle.shift_program.specs.Answers.{TextMeaning, Means}

-- in a wrapper of any chains of the module's cells, a program without a fault is right
abbrev pub FaultlessAreRight : Type 0
FaultlessAreRight = (m : ModuleValue) (t : Test) (w : WrapperValue) (entries : List Entry) → 1 ≤ t.patterns →
    IsFaultless (needed_for (wrapped_test m t w)) entries → AreRight (wrapped_test m t w) (operations entries)

-- and a right program has no fault
abbrev pub RightAreFaultless : Type 0
RightAreFaultless = (m : ModuleValue) (t : Test) (w : WrapperValue) (entries : List Entry) → All IsLasting entries →
    AreRight (wrapped_test m t w) (operations entries) → IsFaultless (needed_for (wrapped_test m t w)) entries

-- a right program has at least as many operations as the test
abbrev pub RightAreLong : Type 0
RightAreLong = (m : ModuleValue) (t : Test) (w : WrapperValue) (entries : List Entry) → 1 ≤ t.patterns → All IsLasting entries →
    AreRight (wrapped_test m t w) (operations entries) → length
    (ops_of m.setup (si_of (wrapped_test m t w).chains) (so_of (wrapped_test m t w).chains) t.patterns) ≤ length (operations entries)

-- no two faults show first
abbrev pub OneFault : Type 0
OneFault = (needed : Needed) (entries : List Entry) (f g : ProgramFault) → IsFault needed entries f → IsFault needed entries g → f ≡ g

-- no fault shows, or one shows first
abbrev pub FaultlessOrFault : Type 0
FaultlessOrFault = (needed : Needed) (entries : List Entry) → IsFaultless needed entries ⊎ ((f : ProgramFault) × IsFault needed entries f)

-- a text says a program in the grammar's range, or is refused at a line
abbrev pub EachTextHasAnAnswer : Type 0
EachTextHasAnAnswer = (bytes : List ℕ) → (meaning : TextMeaning) × Means bytes meaning

-- and means nothing else
abbrev pub TextsHaveOneAnswer : Type 0
TextsHaveOneAnswer = (bytes : List ℕ) (a b : TextMeaning) → Means bytes a → Means bytes b → a ≡ b
