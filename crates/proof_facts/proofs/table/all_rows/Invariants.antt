use Rattle.std.proofs.Common.{◌≡◌, map, take}
use Rattle.std.specs.List.{All}
use Rattle.soc_model.specs.Chips.{soc_value}
use Rattle.proof_facts.specs.Tables.{HasChanges, row_value, row_of}
use Rattle.proof_facts.proofs.table.all_rows.Given as goal

abbrev pub invariant-loop-place : goal.invariant-loop-place
invariant-loop-place l = record {
  rows : map row_value l.rows.items ≡ map (row_of l.wires) (take l.place (soc_value l.soc).modules);
  changes : All HasChanges l.rows.items;
}
