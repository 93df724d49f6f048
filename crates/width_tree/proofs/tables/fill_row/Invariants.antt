use Rattle.soc_model.specs.Chips.{soc_value}
use Rattle.width_tree.proofs.WidthFacts.{RowSoFar}
use Rattle.width_tree.proofs.tables.fill_row.Given as goal

abbrev pub invariant-loop-width : goal.invariant-loop-width
invariant-loop-width l = RowSoFar (soc_value l.soc) l.place l.width l.initial.times l.times
