-- The rows of some cycles one after another: lines of vectors, and digits of controls.
use Rattle.std.specs.Prelude.{◌≡◌, ℕ, zero, suc, ◌+◌, ◌*◌, ◌<◌, ◌≤◌, List, Option, None, Some, length, take, drop}
use Rattle.cycle_texts.specs.Rows.{CycleRow}
use Rattle.cycle_texts.specs.declared.blocks.RowBlock.{RowBlock}

-- a row by its bytes: its line begins with the bits that are driven, and behind a space stand those that are compared
abbrev pub row_in : (wires width : ℕ) → (lines digits : List ℕ) → (place : ℕ) → CycleRow
row_in wires width lines digits r = record {
  driven = take wires (drop (r * (2 * wires + 2)) lines);
  compared = take wires (drop (r * (2 * wires + 2) + (wires + 1)) lines);
  controls = take width (drop (r * width) digits);
}

-- the row at a place of a block, and the one before it
abbrev pub block_row : RowBlock → (place : ℕ) → CycleRow
block_row b r = row_in b.wires b.width b.lines.now b.digits.now r

abbrev pub block_before : RowBlock → (place : ℕ) → Option CycleRow
block_before b zero = None
block_before b (suc r) = Some (block_row b r)

-- there are as many rows as it says
pub record IsBlock (b : RowBlock) : Type 0 where
  pub narrow : b.wires ≤ 256
  pub lines : b.rows * (2 * b.wires + 2) ≤ length b.lines.now
  pub digits : b.rows * b.width ≤ length b.digits.now

-- these are the rows of the cycles from a first one on
abbrev pub AreRows : (row : ℕ → CycleRow) → (wires width : ℕ) → (lines digits : List ℕ) → (first count : ℕ) → Type 0
AreRows row wires width lines digits first count = (r : ℕ) → r < count → row_in wires width lines digits r ≡ row (first + r)

abbrev pub HasRows : (row : ℕ → CycleRow) → RowBlock → Type 0
HasRows row b = AreRows row b.wires b.width b.lines.now b.digits.now b.first b.rows
