use Rattle.std.proofs.Common.{map, take, flat_map}
use Rattle.soc_model.specs.Chips.{soc_value}
use Rattle.plan_model.specs.Views.{bus_value}
use Rattle.planner.specs.Wrapping.{AreUsedModes}
use Rattle.planner.proofs.UsedModes.{pairs_in}
use Rattle.planner.proofs.wrappers.modes_at.Given as goal

abbrev pub invariant-loop-place : goal.invariant-loop-place
invariant-loop-place l = AreUsedModes (soc_value l.soc) (map bus_value l.buses) (flat_map pairs_in (take l.place (soc_value l.soc).modules)) l.modes.items
