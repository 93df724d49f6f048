use Rattle.std.proofs.Common.{◌≡◌, ◌++◌, drop}
use Rattle.soc_model.specs.Chips.{soc_value}
use Rattle.plan_model.specs.Views.{plan_value}
use Rattle.report.specs.ModuleLines.{module_lines}
use Rattle.report.proofs.modules.push_modules.Given as goal

abbrev pub invariant-loop-place : goal.invariant-loop-place
invariant-loop-place l = l.text.items ++ module_lines l.table.wires (plan_value l.plan) l.tests l.place (drop l.place (soc_value l.soc).modules) ≡ l.initial.text.items ++ module_lines l.table.wires (plan_value l.plan) l.tests 0 (soc_value l.soc).modules
