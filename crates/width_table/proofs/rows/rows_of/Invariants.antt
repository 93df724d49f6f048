use Rattle.std.proofs.Common.{◌≡◌, length}
use Rattle.soc_model.specs.Chips.{soc_value}
use Rattle.width_table.specs.Choices.{AreRows}
use Rattle.width_table.proofs.rows.rows_of.Given as goal

abbrev pub invariant-loop-place : goal.invariant-loop-place
invariant-loop-place l = record {
  as_many : length l.rows.items ≡ l.place;
  rows : AreRows (soc_value l.soc).modules l.wires l.rows.items;
}
