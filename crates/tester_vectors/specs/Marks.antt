-- What a tester compares: the mark of the response bit that is read at a cycle on a wire.
use Rattle.std.specs.Prelude.{◌≡◌, ℕ, ◌⊎◌, Option, None, Some, List}
use Rattle.soc_model.specs.Chips.{SocValue}
use Rattle.plan_model.specs.Cells.{Cell}
use Rattle.plan_model.specs.Plans.{PlannedTest, PlanValue, planned, uses, of_first}
use Rattle.plan_model.specs.Right.{IsAt, IsReadAt}
use Rattle.plan_model.specs.Runs.{Content}
use Rattle.live_tests.specs.Reads.{read_of}
use Rattle.vector_lines.specs.Wires.{IsCompared}
pub use Rattle.vector_lines.specs.Marks.{digit, Marks, response_digits}

-- the mark of the response bit that is read, or `-`
abbrev pub mark_of : (bits : ℕ → Cell → ℕ) → Option (ℕ × Cell) → ℕ
mark_of bits None = 45
mark_of bits (Some read) = bits read.0 read.1

-- what stands for a wire at a cycle: the mark of the test that uses it, `-` where none does
abbrev pub mark : Marks → List PlannedTest → (cycle wire : ℕ) → ℕ
mark marks tests c w = of_first (uses c w) (λ (t : PlannedTest). mark_of (marks t.id) (read_of c w t)) 45 tests

-- In a good plan a wire is marked with the mark of the response bit that is read there, and with `-` where none is read.
pub record MarksStand (soc : SocValue) (plan : PlanValue) (marks : Marks) : Type 0 where
  pub bits : (i : ℕ) (t : PlannedTest) (k : ℕ) (x : Cell) (c w : ℕ) → IsAt (planned soc plan) i t → IsReadAt t k x c w →
      mark marks (planned soc plan) c w ≡ marks t.id k x
  pub only : (c w : ℕ) → (mark marks (planned soc plan) c w ≡ 45) ⊎ IsCompared (planned soc plan) c w

-- In a good plan a wire is marked with the response bit that is read there, and with `-` exactly where none is read.
abbrev pub MarksReads : (soc : SocValue) (plan : PlanValue) (content : Content) → Type 0
MarksReads soc plan content = MarksStand soc plan (response_digits content)
