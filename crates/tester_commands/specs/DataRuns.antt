-- A plan's run with test data, as a text of vectors drives and compares it.
use Rattle.std.specs.Prelude.{◌≡◌, ◌≢◌, ℕ, ◌+◌, ◌<◌, Bool, Some, List, slice_get, if◌then◌else◌}
use Rattle.soc_model.specs.declared.TestId.{TestId}
use Rattle.soc_model.specs.declared.Test.{Test}
use Rattle.soc_model.specs.Chips.{ModuleValue, SocValue}
use Rattle.plan_model.specs.Cells.{Cell, IsResponseBit}
use Rattle.plan_model.specs.Operations.{Capture}
use Rattle.plan_model.specs.Plans.{PlanValue, PlannedTest, planned}
use Rattle.plan_model.specs.Right.{IsAt, HoldsStimulus, IsReadAt}
use Rattle.plan_model.specs.Runs.{Content, carried, operation_at, run_with, shown}
use Rattle.test_data.specs.declared.DataBit.{DataBit}
use Rattle.test_data.specs.declared.DataBit.TheVariants.{Zero, One}
use Rattle.test_data.specs.DataWords.{PatternValue, EntryValue}
use Rattle.test_data.specs.Suiting.{name_in}
use Rattle.test_data.specs.Agreement.{IsPatternOf, Agrees}
use Rattle.vector_lines.specs.Wires.{wires_of}
use Rattle.tester_vectors.specs.Marks.{digit}
use Rattle.tester_vectors.specs.DrivenRuns.{IsDriven, line_begin, with_initial}

-- what data has for a bit that isn't any
abbrev pub bit_as_data : Bool → DataBit
bit_as_data bit = if bit then One else Zero

-- the data has this bit, and no x, for the response of a cell, in a pattern of the test of that name
pub record IsSaid (soc : SocValue) (es : List EntryValue) (id : TestId) (k : ℕ) (x : Cell) (bit : Bool) : Type 0 where
  pub core : ModuleValue
  pub test : Test
  pub named : id ≡ name_in core test
  pub pattern : PatternValue
  pub in_data : IsPatternOf soc es core test k pattern
  pub number : ℕ
  pub of_cell : IsResponseBit core test.scan x number
  pub says : slice_get pattern.unload number ≡ Some (bit_as_data bit)

-- the text compares this byte with what a wire shows at a cycle; `-` stands where nothing is compared
pub record IsByteOf (plan : PlanValue) (text : List ℕ) (c w byte : ℕ) : Type 0 where
  pub cycle : c < plan.cycles
  pub wire : w < wires_of plan
  pub stands : slice_get text (line_begin plan c + (wires_of plan + 1 + w)) ≡ Some byte

-- A bit of a response is compared: where it is read, and nowhere else.
pub record IsComparedOnce (soc : SocValue) (plan : PlanValue) (text : List ℕ) (id : TestId) (k : ℕ) (x : Cell) (bit : Bool) : Type 0 where
  pub place : ℕ
  pub test : PlannedTest
  pub at : IsAt (planned soc plan) place test
  pub named : test.id ≡ id
  pub cycle : ℕ
  pub wire : ℕ
  pub read : IsReadAt test k x cycle wire
  pub stands : IsByteOf plan text cycle wire (digit bit)
  pub once : (c w : ℕ) → IsReadAt test k x c w → (c ≡ cycle) × (w ≡ wire)

-- What is compared on a wire at a cycle is a bit that is read there, and that the data says.
pub record IsOfData (soc : SocValue) (plan : PlanValue) (es : List EntryValue) (c w byte : ℕ) : Type 0 where
  pub place : ℕ
  pub test : PlannedTest
  pub at : IsAt (planned soc plan) place test
  pub pattern : ℕ
  pub cell : Cell
  pub read : IsReadAt test pattern cell c w
  pub bit : Bool
  pub said : IsSaid soc es test.id pattern cell bit
  pub is : byte ≡ digit bit

-- Each bit of a response that isn't x is compared at exactly one cycle on one wire, and nothing else is.
pub record ComparesData (soc : SocValue) (plan : PlanValue) (es : List EntryValue) (text : List ℕ) : Type 0 where
  pub each : (id : TestId) (k : ℕ) (x : Cell) (bit : Bool) → IsSaid soc es id k x bit → IsComparedOnce soc plan text id k x bit
  pub only : (c w byte : ℕ) → IsByteOf plan text c w byte → byte ≢ 45 → IsOfData soc plan es c w byte

-- The text shows the bits that the wires carry in the plan's run with a content. Driven with the bits of the text, whatever stands in
-- the cells at first, each Capture finds its stimulus, and each wire shows at each cycle the bit that the text compares there.
pub record RunsWithContent (soc : SocValue) (plan : PlanValue) (content : Content) (text : List ℕ) : Type 0 where
  pub driven : IsDriven plan text (carried content (planned soc plan))
  pub loads : (drive : ℕ → ℕ → Bool) (initial : TestId → Cell → Bool) → IsDriven plan text drive → (i k c : ℕ) (t : PlannedTest) →
      IsAt (planned soc plan) i t → operation_at t c ≡ Some (Capture k) →
      HoldsStimulus content (run_with (with_initial content initial) (planned soc plan) drive c) i t k
  pub shows : (drive : ℕ → ℕ → Bool) (initial : TestId → Cell → Bool) → IsDriven plan text drive → (c w byte : ℕ) →
      IsByteOf plan text c w byte → byte ≢ 45 →
      byte ≡ digit (shown (planned soc plan) (run_with (with_initial content initial) (planned soc plan) drive c) c w)

-- So it runs with each content that agrees with the data, and it compares the response bits that the data says.
pub record RunsWithData (soc : SocValue) (plan : PlanValue) (es : List EntryValue) (text : List ℕ) : Type 0 where
  pub runs : (content : Content) → Agrees soc es content → RunsWithContent soc plan content text
  pub compares : ComparesData soc plan es text
