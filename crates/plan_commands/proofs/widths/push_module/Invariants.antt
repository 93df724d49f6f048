use Rattle.std.proofs.Common.{◌≡◌, ◌+◌, ◌-◌, ◌++◌}
use Rattle.soc_model.specs.Chips.{module_value}
use Rattle.plan_commands.specs.WidthsText.{lines_from}
use Rattle.plan_commands.proofs.widths.push_module.Given as goal

abbrev pub invariant-loop-width : goal.invariant-loop-width
invariant-loop-width l = l.text.items ++ lines_from (module_value l.«module») l.width (l.table.wires + 1 - l.width) ≡ l.initial.text.items ++ lines_from (module_value l.«module») 1 l.table.wires
