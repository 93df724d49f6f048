-- What holds of the parts: each pattern is in exactly one, parts are runs of patterns in order, each is a test of the chip of
-- parts, and each content of the chip that is cut is one of the parts.
use Rattle.std.specs.Prelude.{◌≡◌, ◌⊎◌, ℕ, ◌+◌, ◌-◌, ◌<◌, ◌≤◌, Some, List, length, slice_get}
use Rattle.soc_model.specs.declared.TestId.{TestId}
use Rattle.soc_model.specs.declared.Which.TheVariants.{Tests, Work}
use Rattle.soc_model.specs.Chips.{SocValue, LiveTest, live_tests, id_of}
use Rattle.soc_model.specs.Sizes.{IsFirstPassed}
use Rattle.plan_model.specs.Cells.{Cell}
use Rattle.plan_model.specs.Runs.{Content}
use Rattle.split_plan.specs.declared.Part.{Part}
use Rattle.split_plan.specs.declared.SplitFault.{SplitFault}
use Rattle.split_plan.specs.declared.SplitFault.TheVariants.{Limit, NoMemory}

-- the part has that pattern of the test
abbrev pub HasPattern : TestId → ℕ → Part → Type 0
HasPattern id n p = (p.whole ≡ id) × (p.first ≤ n) × (n ≤ p.last)

-- one of the parts has that pattern of the test, and no other has
pub record IsInOnePart (parts : List Part) (id : TestId) (n : ℕ) : Type 0 where
  pub place : ℕ
  pub part : Part
  pub there : slice_get parts place ≡ Some part
  pub has : HasPattern id n part
  pub only : (q : ℕ) (p : Part) → slice_get parts q ≡ Some p → HasPattern id n p → q ≡ place

-- each pattern of each live test is in exactly one part
abbrev pub EachPatternOnce : SocValue → List Part → Type 0
EachPatternOnce soc parts =
    (i : ℕ) (l : LiveTest) (n : ℕ) → slice_get (live_tests soc) i ≡ Some l → 1 ≤ n → n ≤ l.test.patterns → IsInOnePart parts (id_of l) n

-- A part: a run of patterns of a live test, and a live test of the chip of parts that is its like, in a module at the same
-- place with the same cells.
pub record IsPart (soc parts : SocValue) (i : ℕ) (p : Part) : Type 0 where
  pub at : ℕ
  pub whole : LiveTest
  pub whole_at : slice_get (live_tests soc) at ≡ Some whole
  pub whole_is : id_of whole ≡ p.whole
  pub from_one : 1 ≤ p.first
  pub some : p.first ≤ p.last
  pub within : p.last ≤ whole.test.patterns
  pub part : LiveTest
  pub part_at : slice_get (live_tests parts) i ≡ Some part
  pub part_is : id_of part ≡ p.part
  pub patterns : p.first + part.test.patterns ≡ p.last + 1
  pub tam : part.test.tam ≡ whole.test.tam
  pub scan : part.test.scan ≡ whole.test.scan
  pub place : part.place ≡ whole.place

-- the list of parts and the live tests of the chip of parts go side by side
pub record AreParts (soc parts : SocValue) (list : List Part) : Type 0 where
  pub many : length list ≡ length (live_tests parts)
  pub each : (i : ℕ) (p : Part) → slice_get list i ≡ Some p → IsPart soc parts i p
  -- of two parts of a test the earlier one has the earlier patterns
  pub order : (i j : ℕ) (p q : Part) → i < j → slice_get list i ≡ Some p → slice_get list j ≡ Some q → p.whole ≡ q.whole →
      p.last < q.first

-- A content of the parts has the patterns of a content of the chip that is cut: pattern `k` of a part is that of its test with
-- the number `first + k - 1`. Its bits at first may be any.
pub record HasPatternsOf (parts : List Part) (whole content : Content) : Type 0 where
  pub stimulus : (i : ℕ) (p : Part) (k : ℕ) (x : Cell) → slice_get parts i ≡ Some p → 1 ≤ k →
      content.stimulus p.part k x ≡ whole.stimulus p.whole (p.first + k - 1) x
  pub response : (i : ℕ) (p : Part) (k : ℕ) (x : Cell) → slice_get parts i ≡ Some p → 1 ≤ k →
      content.response p.part k x ≡ whole.response p.whole (p.first + k - 1) x

-- for each content of the chip that is cut there is one of the parts with its patterns
abbrev pub EachContentInParts : List Part → Type 0
EachContentInParts parts = (whole : Content) → (content : Content) × HasPatternsOf parts whole content

-- the limit that the chip of parts passes first, of tests or of work; out of memory may come at any time
abbrev pub IsRefusal : SocValue → SplitFault → Type 0
IsRefusal parts (Limit which value) = IsFirstPassed parts (record { which = which; value = value }) × ((which ≡ Tests) ⊎ (which ≡ Work))
IsRefusal parts NoMemory = Unit {0}
