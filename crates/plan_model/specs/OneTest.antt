-- One test by itself: a chain over the operations of its test, with the bits that it wants.
use Rattle.std.specs.Prelude.{◌≡◌, ℕ, zero, suc, ◌+◌, ◌-◌, ◌<◌, ◌≤◌, Bool, true, Some, List, length, drop, reverse, get_or, slice_get}
use Rattle.plan_model.specs.Cells.{Cell, In, in_length, out_length, is_read}
use Rattle.plan_model.specs.Operations.{Operation, Shift, Capture, ops_of}
use Rattle.plan_model.specs.Runs.{wanted, next_bits, last_bit}

-- a chain, what its test loads and answers there, its bits at first, and the operations
pub record ChainTest : Type 0 where
  pub stimulus : ℕ → Cell → Bool
  pub response : ℕ → Cell → Bool
  pub cells : List Cell
  pub initial : List Bool
  pub operations : List Operation

-- the bits of the chain after a number of operations
unfoldable pub bits_after : ChainTest → ℕ → List Bool
bits_after t zero = t.initial
bits_after t (suc n) =
    next_bits t.response t.cells (slice_get t.operations n) (wanted t.stimulus t.cells (drop n t.operations)) (bits_after t n)

-- the cell that is `r` places from the end of a chain
abbrev pub from_end : List Cell → ℕ → Cell
from_end cells r = get_or cells (length cells - 1 - r) (In 0)

-- Every capture finds its stimulus in the cells that are loaded. The Shifts after it show its response, the last cell
-- first.
pub record RunsRight (t : ChainTest) : Type 0 where
  pub loads : (n k r : ℕ) (x : Cell) → slice_get t.operations n ≡ Some (Capture k) → r < in_length t.cells → slice_get t.cells r ≡ Some x →
      slice_get (bits_after t n) r ≡ Some (t.stimulus k x)
  pub reads : (n k r : ℕ) (x : Cell) → slice_get t.operations n ≡ Some (Capture k) → r < out_length t.cells →
      slice_get (reverse t.cells) r ≡ Some x →
      (slice_get t.operations (n + 1 + r) ≡ Some Shift) × (last_bit (bits_after t (n + 1 + r)) ≡ t.response k x)

-- the cells that are read stand at the end of the chain
abbrev pub ReadsEnd : List Cell → Type 0
ReadsEnd cells = (r : ℕ) → r < out_length cells → is_read (from_end cells r) ≡ true

-- The law of one test: whatever a chain holds at first and whatever the contents are.
abbrev pub LawOfOneTest : Type 0
LawOfOneTest = (t : ChainTest) (setup si so p : ℕ) → t.operations ≡ ops_of setup si so p → length t.initial ≡ length t.cells →
    in_length t.cells ≤ si → out_length t.cells ≤ so → ReadsEnd t.cells → RunsRight t
