-- The live tests of a plan as lanes: where each stands, and by what its bits are counted.
use Rattle.std.specs.Prelude.{◌≡◌, ℕ, ◌≤◌, Bool, true, false, Some, List, length, slice_get}
use Rattle.plan_model.specs.Cells.{out_length}
use Rattle.plan_model.specs.Moments.{phase_ops, ArePhases}
use Rattle.plan_model.specs.Plans.{PlannedTest, end_of}
use Rattle.plan_model.specs.Right.{IsAt}
use Rattle.plan_model.specs.Runs.{Content, chain_at}
use Rattle.vector_lines.specs.declared.lane.Lane.{Lane}
use Rattle.vector_lines.specs.declared.path.Path.{Path}
use Rattle.vector_lines.specs.Marks.{IsKey, Keys, Marks}
use Rattle.vector_lines.specs.Paths.{numbered_marks, numbered_stimulus, IsPath}
use Rattle.vector_lines.specs.Wires.{AreOnWires}

-- ---- one live test

-- a test over the wires: its operations, its wires, and its chains; `inputs` and `lengths` say what the places of its bits are counted by
pub record IsRouted (inputs : ℕ) (lengths : List ℕ) (t : PlannedTest) (lane : Lane) : Type 0 where
  pub operations : t.operations ≡ phase_ops lane.phases
  pub out_fits : (j : ℕ) → out_length (chain_at t j) ≤ lane.phases.so
  pub first_wire : lane.first_wire ≡ t.first_wire
  pub width : lane.width ≡ t.width
  pub chains : length lane.paths.items ≡ length t.chains
  pub path : (j : ℕ) (p : Path) → slice_get lane.paths.items j ≡ Some p → IsPath inputs lengths (chain_at t j) p

-- the lane of a live test of the plan, whatever its contents; a self test has no chains
pub record IsFitted (inputs : ℕ) (lengths : List ℕ) (t : PlannedTest) (lane : Lane) : Type 0 where
  pub phases : ArePhases lane.phases
  pub tam : lane.tam ≡ t.tam
  pub start : lane.start ≡ t.start
  pub ends : lane.end ≡ end_of t
  pub wired : t.tam ≡ true → IsRouted inputs lengths t lane
  pub alone : t.tam ≡ false → (length lane.paths.items ≡ 0) × (length t.chains ≡ 0)

-- a lane with contents: by its key and by the numbers of its bits, `drive` has what its test loads, and `mark` what stands where it answers
pub record IsFilled (drive : ℕ → ℕ → ℕ → Bool) (mark : ℕ → ℕ → ℕ → ℕ) (content : Content) (marks : Marks) (t : PlannedTest)
    (lane : Lane) : Type 0 where
  pub inputs : ℕ
  pub lengths : List ℕ
  pub fitted : IsFitted inputs lengths t lane
  pub stimulus : t.tam ≡ true → content.stimulus t.id ≡ numbered_stimulus (drive lane.key) inputs lengths
  pub answers : t.tam ≡ true → marks t.id ≡ numbered_marks (mark lane.key) lengths

-- a lane whose test is known by its key
pub record IsKeyed (keys : Keys) (t : PlannedTest) (lane : Lane) : Type 0 where
  pub inputs : ℕ
  pub lengths : List ℕ
  pub fitted : IsFitted inputs lengths t lane
  pub key : lane.tam ≡ true → IsKey keys lane.key

-- ---- all live tests

-- the lanes of the tests, in their order: `Is` holds of each test and its lane
pub record AreLanes (Is : PlannedTest → Lane → Type 0) (tests : List PlannedTest) (lanes : List Lane) : Type 0 where
  pub long : length lanes ≡ length tests
  pub lane : (i : ℕ) (t : PlannedTest) (l : Lane) → IsAt tests i t → slice_get lanes i ≡ Some l → Is t l

-- of some tests, that keep to `wires` wires
pub record AreSomeLanes (keys : Keys) (lanes : List Lane) (wires : ℕ) : Type 0 where
  pub tests : List PlannedTest
  pub are : AreLanes (IsKeyed keys) tests lanes
  pub on : AreOnWires tests wires
