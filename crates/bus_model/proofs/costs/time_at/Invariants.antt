use Rattle.std.proofs.Common.{◌≡◌, take}
use Rattle.bus_model.specs.Buses.{places_time}
use Rattle.bus_model.proofs.costs.time_at.Given as goal

abbrev pub invariant-loop-place : goal.invariant-loop-place
invariant-loop-place l = l.sum ≡ places_time l.table l.width (take l.place-index l.places)
