use Rattle.soc_model.specs.Chips.{soc_value}
use Rattle.width_tree.proofs.WidthFacts.{OwnSoFar}
use Rattle.width_tree.proofs.tables.fill_own_times.Given as goal

abbrev pub invariant-loop-place : goal.invariant-loop-place
invariant-loop-place l = OwnSoFar (soc_value l.soc) l.place l.own
