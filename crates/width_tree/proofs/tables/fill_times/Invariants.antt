use Rattle.std.proofs.Common.{◌<◌, ℕ}
use Rattle.soc_model.specs.Chips.{soc_value}
use Rattle.width_tree.specs.Tables.{HasRow}
use Rattle.width_tree.proofs.tables.fill_times.Given as goal

abbrev pub invariant-loop-place : goal.invariant-loop-place
invariant-loop-place l = (q : ℕ) → q < l.place → HasRow (soc_value l.soc) l.wires l.times q
