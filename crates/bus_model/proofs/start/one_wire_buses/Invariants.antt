use Rattle.std.proofs.Common.{◌≡◌, map, take}
use Rattle.bus_model.specs.Buses.{bus_value}
use Rattle.bus_model.specs.Start.{one_wire}
use Rattle.bus_model.proofs.start.one_wire_buses.Given as goal

abbrev pub invariant-loop-place : goal.invariant-loop-place
invariant-loop-place l = map bus_value l.buses.items ≡ map one_wire (take l.place-index l.places)
