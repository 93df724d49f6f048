-- The lines of `widths`: for each module with a live test over the wires, the time of such tests at each width.
use Rattle.std.specs.Prelude.{ℕ, zero, suc, ◌+◌, ◌++◌, List, [], codes, decimal, if◌then◌else◌}
use Rattle.std.specs.List.{flat_map}
use Rattle.soc_model.specs.Chips.{ModuleValue, SocValue}
use Rattle.plan_model.specs.Rules.{has_tam}
use Rattle.width_table.specs.Times.{time}

-- `module m width w time t`, the width in wires and the time in cycles
abbrev pub width_line : (number width cycles : ℕ) → List ℕ
width_line number width cycles =
    codes "module " ++ decimal number ++ codes " width " ++ decimal width ++ codes " time " ++ decimal cycles ++ codes "\n"

-- the lines of a module at `count` widths, from `width` on
abbrev pub lines_from : ModuleValue → (width count : ℕ) → List ℕ
lines_from m width zero = []
lines_from m width (suc count) = width_line m.number width (time m width) ++ lines_from m (width + 1) count

-- at each width from 1 on; nothing of a module without a test over the wires
abbrev pub module_widths : ℕ → ModuleValue → List ℕ
module_widths wires m = if has_tam m then lines_from m 1 wires else []

abbrev pub widths_text : SocValue → ℕ → List ℕ
widths_text soc wires = flat_map (module_widths wires) soc.modules
