use Rattle.std.proofs.Common.{◌≡◌, map, take}
use Rattle.soc_model.specs.Chips.{soc_value}
use Rattle.planner.specs.Buses.{number_at}
use Rattle.planner.proofs.buses.bus_of.Given as goal

abbrev pub invariant-loop-place : goal.invariant-loop-place
invariant-loop-place l = l.modules.items ≡ map (number_at (soc_value l.soc)) (take l.place-index l.bus.places.items)
