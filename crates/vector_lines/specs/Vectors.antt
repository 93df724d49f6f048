-- What a tester drives and compares on the wires of a plan, in lines of text.
use Rattle.std.specs.Prelude.{◌≡◌, ◌≢◌, ℕ, ◌+◌, ◌-◌, ◌*◌, ◌<◌, ◌≤◌, ◌⊎◌, Bool, true, false, Option, Some, List, length, drop, option_map, slice_get}
use Rattle.soc_model.specs.Chips.{SocValue}
use Rattle.plan_model.specs.Cells.{Cell, out_length}
use Rattle.plan_model.specs.OneTest.{from_end}
use Rattle.plan_model.specs.Plans.{PlanValue, PlannedTest, planned, uses}
use Rattle.plan_model.specs.Right.{IsAt, IsReadAt}
use Rattle.plan_model.specs.Runs.{Content, carried, chain_at, wanted}
use Rattle.plan_model.specs.Moments.{near_capture, wanted_by, IsMoment}
use Rattle.plan_model.specs.declared.moments.NearCapture.{NearCapture}
use Rattle.plan_model.specs.declared.moments.Phases.{Phases}
use Rattle.plan_model.specs.declared.moments.Moment.TheVariants as moment
use Rattle.vector_lines.specs.Wires.{wires_of, IsCompared, AreOnWires}
use Rattle.vector_lines.specs.Lanes.{IsKeyed, AreLanes}
pub use Rattle.vector_lines.specs.Marks.{digit, Keys, Marks, response_digits}
use Rattle.vector_lines.specs.Paths.{is_answered, numbered_marks, numbered_stimulus, IsPath}
use Rattle.vector_lines.specs.Placed.{IsPlacedLane}
use Rattle.vector_lines.specs.declared.lane.Lane.{Lane}
use Rattle.vector_lines.specs.declared.path.Path.{Path}
use Rattle.vector_lines.specs.declared.vectors.Vectors.{Vectors}

-- ---- lines

-- the byte in a column of a line; each line has two bytes for each wire, a space and a line feed
abbrev pub byte_at : (text : List ℕ) (wires row column : ℕ) → Option ℕ
byte_at text wires row column = slice_get text (row * (2 * wires + 2) + column)

-- The line of a cycle: the bits that the wires carry, a space, and for each wire the mark of the response bit that is read there,
-- `-` where none is.
pub record IsLineOf (content : Content) (marks : Marks) (tests : List PlannedTest) (wires cycle row : ℕ) (text : List ℕ) : Type 0 where
  pub driven : (w : ℕ) → w < wires → byte_at text wires row w ≡ Some (digit (carried content tests cycle w))
  pub space : byte_at text wires row wires ≡ Some 32
  pub reads : (i k w : ℕ) (t : PlannedTest) (x : Cell) → IsAt tests i t → IsReadAt t k x cycle w →
      byte_at text wires row (wires + 1 + w) ≡ Some (marks t.id k x)
  pub rest : (w : ℕ) → w < wires → (IsCompared tests cycle w → ⊥) → byte_at text wires row (wires + 1 + w) ≡ Some 45
  pub feed : byte_at text wires row (wires + 1 + wires) ≡ Some 10

-- the vectors of a plan of a chip, where the contents know the live tests by these keys
pub record AreVectors (keys : Keys) (soc : SocValue) (plan : PlanValue) (v : Vectors) : Type 0 where
  pub are : AreLanes (IsPlacedLane keys soc plan) (planned soc plan) v.lanes.items
  pub on : AreOnWires (planned soc plan) v.wires
  pub all : v.wires ≡ wires_of plan

-- they are those of some plan, and `count` lines have room in a text
pub record HaveRoom (keys : Keys) (v : Vectors) (count : ℕ) (text : List ℕ) : Type 0 where
  pub soc : SocValue
  pub plan : PlanValue
  pub are : AreVectors keys soc plan v
  pub narrow : wires_of plan ≤ 256
  pub rows : count * (2 * wires_of plan + 2) ≤ length text

-- ---- bytes that are put

-- another column than this one of `count` lines
abbrev pub IsElsewhere : (row count column r c : ℕ) → Type 0
IsElsewhere row count column r c = (c ≢ column) ⊎ ((r < row) ⊎ (row + count ≤ r))

-- `count` bytes were put below one another
pub record ArePutDown (wires row count column : ℕ) (byte : ℕ → ℕ) (old new : List ℕ) : Type 0 where
  pub long : length new ≡ length old
  pub put : (i : ℕ) → i < count → byte_at new wires (row + i) column ≡ Some (byte i)
  pub others : (r c : ℕ) → c < 2 * wires + 2 → IsElsewhere row count column r c → byte_at new wires r c ≡ byte_at old wires r c

-- `count` equal bytes were put beside one another
pub record ArePutAcross (wires row column count byte : ℕ) (old new : List ℕ) : Type 0 where
  pub long : length new ≡ length old
  pub put : (c : ℕ) → column ≤ c → c < column + count → byte_at new wires row c ≡ Some byte
  pub others : (r c : ℕ) → c < 2 * wires + 2 → (r ≢ row) ⊎ ((c < column) ⊎ (column + count ≤ c)) →
      byte_at new wires r c ≡ byte_at old wires r c

-- no other line was changed
abbrev pub AreOtherRowsKept : (wires row : ℕ) (old new : List ℕ) → Type 0
AreOtherRowsKept wires row old new = (r c : ℕ) → c < 2 * wires + 2 → r ≢ row → byte_at new wires r c ≡ byte_at old wires r c

-- a line on which nothing is driven or compared
pub record IsBlank (wires row : ℕ) (text : List ℕ) : Type 0 where
  pub driven : (w : ℕ) → w < wires → byte_at text wires row w ≡ Some 48
  pub space : byte_at text wires row wires ≡ Some 32
  pub marks : (w : ℕ) → w < wires → byte_at text wires row (wires + 1 + w) ≡ Some 45
  pub feed : byte_at text wires row (wires + 1 + wires) ≡ Some 10

-- ---- a stretch of Shifts

-- the captures ahead and behind some Shifts later
abbrev pub earlier : ℕ → Option NearCapture → Option NearCapture
earlier i a = option_map (λ (t : NearCapture). record { shifts = t.shifts - i; pattern = t.pattern }) a

abbrev pub later : ℕ → Option NearCapture → Option NearCapture
later i b = option_map (λ (t : NearCapture). record { shifts = t.shifts + i; pattern = t.pattern }) b

-- from an operation on there are `count` Shifts
abbrev pub AreShifts : Phases → (n : ℕ) (ahead behind : Option NearCapture) (count : ℕ) → Type 0
AreShifts p n ahead behind count = (i : ℕ) → i < count → IsMoment p (n + i) (moment.Shift (earlier i ahead) (later i behind))

-- the bits that a chain loads in a stretch are driven in a column where nothing was driven
abbrev pub IsDriven : (bits : ℕ → ℕ → Bool) (p : Path) (wires row count column : ℕ) (ahead : Option NearCapture) (old new : List ℕ) → Type 0
IsDriven bits p wires row count column ahead old new = (inputs : ℕ) (lengths : List ℕ) (cells : List Cell) → IsPath inputs lengths cells p →
    (i : ℕ) → i < count → byte_at old wires (row + i) column ≡ Some 48 →
    byte_at new wires (row + i) column ≡ Some (digit (wanted_by (numbered_stimulus bits inputs lengths) cells
    (option_map near_capture (earlier i ahead))))

-- the bits that are read of it stand in a column, and where none is read nothing was put
pub record IsRead (marks : ℕ → ℕ → ℕ) (p : Path) (wires row count column : ℕ) (behind : Option NearCapture)
    (old new : List ℕ) : Type 0 where
  pub read : (inputs : ℕ) (lengths : List ℕ) (cells : List Cell) → IsPath inputs lengths cells p → (i s k : ℕ) → i < count →
      option_map near_capture (later i behind) ≡ Some (s, k) → s < out_length cells →
      byte_at new wires (row + i) column ≡ Some (numbered_marks marks lengths k (from_end cells s))
  pub unread : (inputs : ℕ) (lengths : List ℕ) (cells : List Cell) → IsPath inputs lengths cells p → (i : ℕ) → i < count →
      is_answered cells (option_map near_capture (later i behind)) ≡ false →
      byte_at new wires (row + i) column ≡ byte_at old wires (row + i) column

-- nothing was put elsewhere than in one column of some lines
abbrev pub IsKeptElsewhere : (wires row count column : ℕ) (old new : List ℕ) → Type 0
IsKeptElsewhere wires row count column old new =
    (r c : ℕ) → c < 2 * wires + 2 → IsElsewhere row count column r c → byte_at new wires r c ≡ byte_at old wires r c

-- a column of other wires than `many` of them, or another line
abbrev pub IsApart : (wires row count first many r c : ℕ) → Type 0
IsApart wires row count first many r c =
    (((c < first) ⊎ (first + many ≤ c)) × ((c < wires + 1 + first) ⊎ (wires + 1 + (first + many) ≤ c))) ⊎ ((r < row) ⊎ (row + count ≤ r))

-- the first chains of a test were put
pub record AreChainsPut (bits : ℕ → ℕ → Bool) (marks : ℕ → ℕ → ℕ) (paths : List Path) (many wires row count first : ℕ)
    (ahead behind : Option NearCapture) (old new : List ℕ) : Type 0 where
  pub long : length new ≡ length old
  pub driven : (j : ℕ) (p : Path) → j < many → slice_get paths j ≡ Some p → IsDriven bits p wires row count (first + j) ahead old new
  pub read : (j : ℕ) (p : Path) → j < many → slice_get paths j ≡ Some p →
      IsRead marks p wires row count (wires + 1 + (first + j)) behind old new
  pub others : (r c : ℕ) → c < 2 * wires + 2 → IsApart wires row count first many r c → byte_at new wires r c ≡ byte_at old wires r c

-- ---- one live test

-- a lane of a test among tests on `wires` wires
pub record HasLane (Is : PlannedTest → Lane → Type 0) (tests : List PlannedTest) (wires i : ℕ) (t : PlannedTest) (lane : Lane)
    : Type 0 where
  pub at : IsAt tests i t
  pub on : AreOnWires tests wires
  pub is : Is t lane

-- of some test
pub record HasSomeLane (keys : Keys) (wires : ℕ) (lane : Lane) : Type 0 where
  pub tests : List PlannedTest
  pub place : ℕ
  pub test : PlannedTest
  pub has : HasLane (IsKeyed keys) tests wires place test lane

-- what the test drives and compares at a cycle was put into a line
pub record IsPlayed (content : Content) (marks : Marks) (t : PlannedTest) (wires cycle row : ℕ) (old new : List ℕ) : Type 0 where
  pub driven : (w : ℕ) → uses cycle w t ≡ true → byte_at old wires row w ≡ Some 48 →
      byte_at new wires row w ≡ Some (digit (wanted (content.stimulus t.id) (chain_at t (w - t.first_wire))
      (drop (cycle - t.start) t.operations)))
  pub idle : (w : ℕ) → w < wires → uses cycle w t ≡ false → byte_at new wires row w ≡ byte_at old wires row w
  pub reads : (k w : ℕ) (x : Cell) → IsReadAt t k x cycle w →
      byte_at new wires row (wires + 1 + w) ≡ Some (marks t.id k x)
  pub rest : (w : ℕ) → w < wires → (byte_at new wires row (wires + 1 + w) ≡ byte_at old wires row (wires + 1 + w))
      ⊎ ((k : ℕ) × (x : Cell) × IsReadAt t k x cycle w)
  pub space : byte_at new wires row wires ≡ byte_at old wires row wires
  pub feed : byte_at new wires row (wires + 1 + wires) ≡ byte_at old wires row (wires + 1 + wires)

-- the cycles from one on up to another were, in lines that begin with a row
pub record ArePlayed (content : Content) (marks : Marks) (t : PlannedTest) (wires from until row : ℕ) (old new : List ℕ) : Type 0 where
  pub long : length new ≡ length old
  pub each : (c : ℕ) → from ≤ c → c < until → IsPlayed content marks t wires c (row + (c - from)) old new
  pub others : (r c : ℕ) → c < 2 * wires + 2 → (r < row) ⊎ (row + (until - from) ≤ r) → byte_at new wires r c ≡ byte_at old wires r c

-- ---- all live tests

-- the line of a cycle has what the tests below a place drive and compare
pub record IsLineBelow (content : Content) (marks : Marks) (tests : List PlannedTest) (n wires cycle row : ℕ) (text : List ℕ) : Type 0 where
  pub driven : (i w : ℕ) (t : PlannedTest) → i < n → IsAt tests i t → uses cycle w t ≡ true →
      byte_at text wires row w ≡ Some (digit (wanted (content.stimulus t.id) (chain_at t (w - t.first_wire))
      (drop (cycle - t.start) t.operations)))
  pub free : (w : ℕ) → w < wires → ((i : ℕ) (t : PlannedTest) → i < n → IsAt tests i t → uses cycle w t ≡ true → ⊥) →
      byte_at text wires row w ≡ Some 48
  pub reads : (i k w : ℕ) (t : PlannedTest) (x : Cell) → i < n → IsAt tests i t → IsReadAt t k x cycle w →
      byte_at text wires row (wires + 1 + w) ≡ Some (marks t.id k x)
  pub rest : (w : ℕ) → w < wires → (byte_at text wires row (wires + 1 + w) ≡ Some 45) ⊎ IsCompared tests cycle w
  pub space : byte_at text wires row wires ≡ Some 32
  pub feed : byte_at text wires row (wires + 1 + wires) ≡ Some 10
