use Rattle.std.proofs.Common.{◌≡◌, map, drop}
use Rattle.plan_model.specs.Plans.{bus_place}
use Rattle.plan_model.specs.Views.{bus_value}
use Rattle.plan_model.proofs.places.bus_of.Given as goal

abbrev pub invariant-loop-bus : goal.invariant-loop-bus
invariant-loop-bus l = (l.place ≡ l.bus-index) × (bus_place l.«module» l.place (map bus_value (drop l.bus-index l.buses)) ≡ bus_place l.«module» 0 (map bus_value l.buses))
