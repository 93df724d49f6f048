-- What a plan of parts promises for the chip that was cut: each pattern of each of its live tests is loaded and read exactly
-- once.
use Rattle.std.specs.Prelude.{◌≡◌, ℕ, ◌+◌, ◌≤◌, true, false, List, Option, Some, slice_get}
use Rattle.std.specs.List.{Contains}
use Rattle.outside.specs.Held.{Files, Appended}
use Rattle.soc_model.specs.declared.TestId.{TestId}
use Rattle.soc_model.specs.Chips.{SocValue, LiveTest, live_tests, id_of}
use Rattle.plan_model.specs.Cells.{Cell, is_loaded, is_read}
use Rattle.plan_model.specs.Operations.{Capture}
use Rattle.plan_model.specs.Plans.{LimitsValue, PlanValue, PlannedTest, planned}
use Rattle.plan_model.specs.Runs.{Content, operation_at, state_at, bits_at, shown}
use Rattle.plan_model.specs.Right.{IsAt, IsReadAt, TestsItself, IsRight}
use Rattle.plan_model.specs.Rules.{IsBound}
use Rattle.split_plan.specs.declared.Part.{Part}
use Rattle.split_plan.specs.Laws.{HasPattern}
pub use Rattle.split_plan.specs.Laws.{HasPatternsOf, EachContentInParts}
use Rattle.split_plan.specs.Parts.{split_chip, split_limits, split_parts, split_of}
use Rattle.commands.specs.Trusted.{IsChipIn, AreLimitsIn}
use Rattle.plan_commands.specs.SplitText.{split_text}

-- Pattern `n` of a test is loaded and read: Capture `k` of the part at place `i` comes at one cycle and finds the stimulus, and
-- each bit of the response is shown at one cycle on one wire.
pub record IsLoadedAndRead (whole content : Content) (tests : List PlannedTest) (i : ℕ) (t : PlannedTest) (id : TestId)
    (n k : ℕ) : Type 0 where
  pub cycle : ℕ
  pub captures : operation_at t cycle ≡ Some (Capture k)
  pub once : (c : ℕ) → operation_at t c ≡ Some (Capture k) → c ≡ cycle
  pub holds : (j r : ℕ) (cells : List Cell) (x : Cell) → slice_get t.chains j ≡ Some cells → slice_get cells r ≡ Some x →
      is_loaded x ≡ true → slice_get (bits_at (state_at content tests cycle) i j) r ≡ Some (whole.stimulus id n x)
  pub reads : (x : Cell) → Contains t.cells x → is_read x ≡ true →
      (c w : ℕ) × IsReadAt t k x c w × (shown tests (state_at content tests c) c w ≡ whole.response id n x)
      × ((c' w' : ℕ) → IsReadAt t k x c' w' → (c' ≡ c) × (w' ≡ w))

-- Pattern `n` of a live test is in exactly one part, which loads and reads it; a self test runs for its cycles.
pub record IsServedOnce (whole content : Content) (tests : List PlannedTest) (parts : List Part) (l : LiveTest) (n : ℕ) : Type 0 where
  pub place : ℕ
  pub part : Part
  pub there : slice_get parts place ≡ Some part
  pub has : HasPattern (id_of l) n part
  pub only : (q : ℕ) (p : Part) → slice_get parts q ≡ Some p → HasPattern (id_of l) n p → q ≡ place
  pub test : PlannedTest
  pub test_at : IsAt tests place test
  pub test_is : test.id ≡ part.part
  -- the pattern's number in its part
  pub number : ℕ
  pub number_is : part.first + number ≡ n + 1
  pub some : 1 ≤ number
  pub within : number ≤ test.patterns
  pub over_wires : l.test.tam ≡ true → IsLoadedAndRead whole content tests place test (id_of l) n number
  pub by_itself : l.test.tam ≡ false → TestsItself test

-- What a plan of parts is that is printed: the chip that is cut and its limits were read from the held files; the plan runs
-- right on the chip of parts for every content, and so loads and reads each pattern of each live test of the chip that was
-- cut exactly once, with each content of that chip, which is one of the parts; no good plan of the chip of parts ends before its
-- bound; and its text was written.
pub record IsTrustworthySplit (files : Files) (soc limits : List ℕ) (most : ℕ) (old new : Option (List ℕ)) : Type 0 where
  pub chip : SocValue
  pub bounds : LimitsValue
  pub value : PlanValue
  pub chip_read : IsChipIn files soc chip
  pub limits_read : AreLimitsIn files limits chip bounds
  pub right : (content : Content) → IsRight (split_chip bounds most chip) (split_limits bounds most chip) value content
  pub each : (whole content : Content) → HasPatternsOf (split_parts bounds most chip) whole content → (i : ℕ) (l : LiveTest) (n : ℕ) →
      slice_get (live_tests chip) i ≡ Some l → 1 ≤ n → n ≤ l.test.patterns →
      IsServedOnce whole content (planned (split_chip bounds most chip) value) (split_parts bounds most chip) l n
  pub contents : EachContentInParts (split_parts bounds most chip)
  pub bound : IsBound (split_chip bounds most chip) (split_limits bounds most chip) value.bound.cycles
  pub written : Appended old (split_text (split_of chip bounds most) value) new
