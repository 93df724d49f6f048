-- The cells of a chain from its end.
use Rattle.std.specs.Prelude.{◌≡◌, ℕ, ◌<◌, ◌≤◌, Option, None, Some, List, [], get_or, reverse, slice_get}
use Rattle.plan_model.specs.Cells as cells
use Rattle.plan_model.specs.Cells.{out_length}
use Rattle.fail_locate.specs.declared.Cell.{Cell}
use Rattle.fail_locate.specs.Spots.{cell_value}

-- the cells of a chain, none past the last chain
abbrev pub cells_at : List (List cells.Cell) → ℕ → List cells.Cell
cells_at chains chain = get_or chains chain []

-- the cell that stands `shifts` places from the end of a chain, within the out-length, or that none does
abbrev pub IsFromEnd : List cells.Cell → ℕ → Option Cell → Type 0
IsFromEnd cells shifts None = out_length cells ≤ shifts
IsFromEnd cells shifts (Some cell) = (shifts < out_length cells) × (slice_get (reverse cells) shifts ≡ Some (cell_value cell))
