-- One live test, as its plan places it and as the machine of a whole chip steps it.
use Rattle.std.specs.Prelude.{◌≡◌, ℕ, ◌+◌, ◌-◌, ◌%◌, ◌<◌, ◌≤◌, Bool, true, false, Option, Some, None, List, map, length, replicate, slice_get, slice_index, nat_le, nat_lt, ◌&&◌, if◌then◌else◌}
use Rattle.plan_model.specs.Cells.{Cell, out_length}
use Rattle.plan_model.specs.Operations.{Operation, Setup, Shift, Capture, SelfTest}
use Rattle.plan_model.specs.Plans.{PlannedTest, end_of}
use Rattle.plan_model.specs.Runs.{Content, chain_at}
use Rattle.vector_lines.specs.declared.path.Path.{Path}
use Rattle.vector_lines.specs.declared.lane.Lane.{Lane}
use Rattle.bit_machine.specs.declared.stepped.Page.{Page}
use Rattle.bit_machine.specs.declared.stepped.SteppedLane.{SteppedLane}
use Rattle.bit_machine.specs.Chips.{holds}
use Rattle.bit_machine.specs.Packed.{is_set}
use Rattle.vector_lines.specs.Made.{made_from}
use Rattle.vector_lines.specs.Paths.{IsPath}
use Rattle.plan_model.specs.Moments.{phase_ops, moment_ahead, ArePhases, IsMoment}
use Rattle.vector_lines.specs.Places.{response_place, stimulus_place}

-- the bits of the chains
abbrev pub lane_bits : SteppedLane → List (List Bool)
lane_bits lane = lane.rings.items

-- over the wires and active at the cycle
abbrev pub lane_on : Lane → ℕ → Bool
lane_on lane cycle = lane.tam && (nat_le lane.start cycle && nat_lt cycle lane.end)

-- what a path loads and answers by made bits
abbrev pub path_stimulus : (base inputs : ℕ) (lengths : List ℕ) → ℕ → Cell → Bool
path_stimulus base inputs lengths k x = made_from base k (stimulus_place inputs lengths x) 0

abbrev pub path_response : (base : ℕ) (lengths : List ℕ) → ℕ → Cell → Bool
path_response base lengths k x = made_from base k (response_place lengths x) 1

-- a path that can be stepped
pub record IsSound (p : Path) : Type 0 where
  pub loads : length p.loads ≤ p.cells
  pub answers : length p.answers ≤ p.cells

-- the bit that the cell at a place loads, 0 past the last one that is loaded
abbrev pub loaded_bit : (base k : ℕ) → List ℕ → ℕ → Bool
loaded_bit base k loads i = if nat_lt i (length loads) then made_from base k (slice_index loads i) 0 else false

-- the word has what a chain loads of a page
abbrev pub IsPageWord : (base : ℕ) → Page → List ℕ → (word : ℕ) → Type 0
IsPageWord base page loads word = (i : ℕ) → i < 64 → is_set word i ≡ loaded_bit base page.pattern loads (page.first + i)

-- there is a word of its page for each chain
pub record ArePages (s : SteppedLane) : Type 0 where
  pub many : length s.pages.items ≡ length s.lane.paths.items
  pub each : (page : Page) → s.page ≡ Some page → (j : ℕ) (p : Path) → slice_get s.lane.paths.items j ≡ Some p →
      IsPageWord s.lane.key page p.loads (slice_index s.pages.items j)

-- there are the bits of each chain, one for each cell
pub record AreRings (s : SteppedLane) : Type 0 where
  pub many : length s.rings.items ≡ length s.lane.paths.items
  pub each : (j : ℕ) (p : Path) (bits : List Bool) → slice_get s.lane.paths.items j ≡ Some p → slice_get s.rings.items j ≡ Some bits →
      length bits ≡ p.cells

-- what is counted of a live test fits
pub record IsReady (lane : Lane) : Type 0 where
  pub base : lane.key < 997
  pub phases : ArePhases lane.phases
  pub paths : (j : ℕ) (p : Path) → slice_get lane.paths.items j ≡ Some p → IsSound p

-- a live test that can be stepped
pub record IsSteppable (s : SteppedLane) : Type 0 where
  pub ready : IsReady s.lane
  pub pages : ArePages s
  pub rings : AreRings s

-- it is in the middle of its operations
pub record IsBusy (lane : Lane) (cycle : ℕ) : Type 0 where
  pub begun : lane.start ≤ cycle
  pub going : cycle - lane.start < length (phase_ops lane.phases)

-- a test over the wires: its operations, its wires, and its chains with the made contents
pub record IsWired (content : Content) (t : PlannedTest) (lane : Lane) : Type 0 where
  pub operations : t.operations ≡ phase_ops lane.phases
  pub out_fits : (j : ℕ) → out_length (chain_at t j) ≤ lane.phases.so
  pub first_wire : lane.first_wire ≡ t.first_wire
  pub width : lane.width ≡ t.width
  pub chains : length lane.paths.items ≡ length t.chains
  pub inputs : ℕ
  pub lengths : List ℕ
  pub stimulus : content.stimulus t.id ≡ path_stimulus lane.key inputs lengths
  pub response : content.response t.id ≡ path_response lane.key lengths
  pub path : (j : ℕ) (p : Path) → slice_get lane.paths.items j ≡ Some p → IsPath inputs lengths (chain_at t j) p

-- the lane of a live test of the plan; a self test has no chains
pub record IsLane (content : Content) (t : PlannedTest) (lane : Lane) : Type 0 where
  pub ready : IsReady lane
  pub tam : lane.tam ≡ t.tam
  pub start : lane.start ≡ t.start
  pub ends : lane.end ≡ end_of t
  pub wired : t.tam ≡ true → IsWired content t lane
  pub alone : t.tam ≡ false → (length lane.paths.items ≡ 0) × (length t.chains ≡ 0)

-- the lane knows what its test does at the cycle, and has the page of what its chains want
pub record IsNow (s : SteppedLane) (cycle : ℕ) : Type 0 where
  pub is : IsMoment s.lane.phases (cycle - s.lane.start) s.moment
  pub page : (n k : ℕ) → moment_ahead s.moment ≡ Some (n, k) → s.page ≡ Some (record { pattern = k; first = n - n % 64 })

-- a lane of one test with its bits, at another moment
pub record IsSameTest (old new : SteppedLane) : Type 0 where
  pub lane : new.lane ≡ old.lane
  pub rings : new.rings ≡ old.rings

-- a capture, and whether it finds its stimulus
abbrev pub capture_answer : (stimulus : ℕ → Cell → Bool) → Option Operation → List (List Cell) → List (List Bool) → Option Bool
capture_answer stimulus None chains bits = None
capture_answer stimulus (Some Setup) chains bits = None
capture_answer stimulus (Some Shift) chains bits = None
capture_answer stimulus (Some (Capture k)) chains bits = Some (holds (stimulus k) chains bits)
capture_answer stimulus (Some SelfTest) chains bits = None

-- bit 0 in each cell of each chain
abbrev pub resting_bits : List Path → List (List Bool)
resting_bits paths = map (λ (p : Path). replicate p.cells false) paths

-- a live test before any cycle
pub record IsAtRest (lane : Lane) (s : SteppedLane) : Type 0 where
  pub same : s.lane ≡ lane
  pub rings : s.rings.items ≡ resting_bits lane.paths.items
  pub page : s.page ≡ None
  pub pages : length s.pages.items ≡ length lane.paths.items

-- live tests before any cycle, in their order
pub record AreAtRest (lanes : List Lane) (stepped : List SteppedLane) : Type 0 where
  pub long : length stepped ≡ length lanes
  pub each : (i : ℕ) (l : Lane) (s : SteppedLane) → slice_get lanes i ≡ Some l → slice_get stepped i ≡ Some s → IsAtRest l s
