use Rattle.std.proofs.Common.{◌-◌, true, false}
use Rattle.soc_model.specs.Chips.{ModuleValue}
use Rattle.width_table.specs.Choices.{AreChoices, AreTimes}
use Rattle.width_table.proofs.rows.cycles_together.Given as goal

abbrev pub invariant-loop-width : goal.invariant-loop-width
invariant-loop-width l = (m : ModuleValue) → AreChoices m true l.wires l.scan.taken.items l.scan.places.items → AreChoices m false l.wires l.terminals.taken.items l.terminals.places.items → AreTimes m (l.width - 1) l.times.items
