use Rattle.std.proofs.Common.{◌≡◌, take, flat_map}
use Rattle.soc_model.specs.Chips.{soc_value}
use Rattle.plan_commands.specs.WidthsText.{module_widths}
use Rattle.plan_commands.proofs.widths.widths_text.Given as goal

abbrev pub invariant-loop-place : goal.invariant-loop-place
invariant-loop-place l = l.text.items ≡ flat_map (module_widths l.wires) (take l.place (soc_value l.soc).modules)
