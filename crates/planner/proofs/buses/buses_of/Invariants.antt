use Rattle.std.proofs.Common.{◌≡◌, map, take}
use Rattle.soc_model.specs.Chips.{soc_value}
use Rattle.plan_model.specs.Views.{bus_value}
use Rattle.bus_model.specs.Buses.{bus_value as arch_bus_value}
use Rattle.planner.specs.Buses.{plan_buses}
use Rattle.planner.proofs.buses.buses_of.Given as goal

abbrev pub invariant-loop-bus : goal.invariant-loop-bus
invariant-loop-bus l = map bus_value l.buses.items ≡ plan_buses (soc_value l.soc) (map arch_bus_value (take l.bus-index l.arch.buses.items))
