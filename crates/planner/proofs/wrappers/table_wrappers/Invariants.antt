use Rattle.std.proofs.Common.{map, take}
use Rattle.soc_model.specs.Chips.{soc_value}
use Rattle.plan_model.specs.Views.{bus_value, wrapper_value}
use Rattle.planner.specs.Wrapping.{mode_of_module}
use Rattle.planner.proofs.UsedModes.{AreMade}
use Rattle.planner.proofs.wrappers.table_wrappers.Given as goal

abbrev pub invariant-loop-mode : goal.invariant-loop-mode
invariant-loop-mode l = AreMade (soc_value l.soc) (map bus_value l.buses) (map (mode_of_module (soc_value l.soc)) (take l.mode-index l.mode-items)) (map wrapper_value l.wrappers.items)
