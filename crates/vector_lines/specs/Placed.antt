-- The lanes of the live tests of a chip as a plan places them, and the contents that stand for their bits.
use Rattle.std.specs.Prelude.{◌≡◌, ℕ, ◌+◌, Bool, true, false, Some, List, map, length, slice_get}
use Rattle.std.specs.List.{filter}
use Rattle.soc_model.specs.declared.Test.{Test}
use Rattle.soc_model.specs.Chips.{ModuleValue, SocValue, LiveTest, id_of, is_live, live_tests}
use Rattle.soc_model.specs.Modes.{scan_lengths}
use Rattle.plan_model.specs.Cells.{Cell}
use Rattle.plan_model.specs.Moments.{ArePhases}
use Rattle.plan_model.specs.Plans.{PlanValue, PlannedTest, planned_test}
use Rattle.plan_model.specs.Runs.{Content}
use Rattle.live_tests.specs.declared.placed.PlacedTest.{PlacedTest}
use Rattle.vector_lines.specs.Places.{stimulus_place, test_place, response_place}
use Rattle.vector_lines.specs.Lanes.{IsFitted}
use Rattle.vector_lines.specs.Marks.{Keys, Marks}
use Rattle.vector_lines.specs.declared.lane.Lane.{Lane}

-- the lane of a self test
pub record IsSelfLane (placed : PlacedTest) (l : Lane) : Type 0 where
  pub tam : l.tam ≡ false
  pub key : l.key ≡ 0
  pub start_is : l.start ≡ placed.start
  pub ends : l.end ≡ placed.end
  pub phases : ArePhases l.phases
  pub none : length l.paths.items ≡ 0

-- the live ones of some tests of the module at a place
abbrev pub planned_in : PlanValue → ℕ → ModuleValue → List Test → List PlannedTest
planned_in plan place m tests = map (planned_test plan place m) (filter is_live tests)

-- the input cells of a live test's module, and the lengths of the scan chains of its mode
abbrev pub inputs_of : LiveTest → ℕ
inputs_of l = l.core.inputs + l.core.bidirs

abbrev pub lengths_of : LiveTest → List ℕ
lengths_of l = scan_lengths l.core l.test.scan

-- the key of a live test
abbrev pub key_of : Keys → LiveTest → ℕ
key_of keys l = keys l.place (test_place l) (id_of l)

-- the lane of a live test of the chip, by its key
pub record IsPlacedLane (keys : Keys) (soc : SocValue) (plan : PlanValue) (t : PlannedTest) (lane : Lane) : Type 0 where
  pub place : ℕ
  pub live : LiveTest
  pub there : slice_get (live_tests soc) place ≡ Some live
  pub planned : t ≡ planned_test plan live.place live.core live.test
  pub key : t.tam ≡ true → lane.key ≡ key_of keys live
  pub none : t.tam ≡ false → lane.key ≡ 0
  pub fitted : IsFitted (inputs_of live) (lengths_of live) t lane

-- Contents stand for what the live tests of a chip load, and for what is written where their response bits are read: by the key of each
-- test over the wires, `drive` has the bit of each place in a stimulus, and `mark` the byte of each place in a response.
pub record StandFor (keys : Keys) (drive : ℕ → ℕ → ℕ → Bool) (mark : ℕ → ℕ → ℕ → ℕ) (soc : SocValue) (content : Content) (marks : Marks)
    : Type 0 where
  pub stimulus : (i : ℕ) (l : LiveTest) → slice_get (live_tests soc) i ≡ Some l → l.test.tam ≡ true → (k : ℕ) (x : Cell) →
      content.stimulus (id_of l) k x ≡ drive (key_of keys l) k (stimulus_place (inputs_of l) (lengths_of l) x)
  pub answers : (i : ℕ) (l : LiveTest) → slice_get (live_tests soc) i ≡ Some l → l.test.tam ≡ true → (k : ℕ) (x : Cell) →
      marks (id_of l) k x ≡ mark (key_of keys l) k (response_place (lengths_of l) x)
