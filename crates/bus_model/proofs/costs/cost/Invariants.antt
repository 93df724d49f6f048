use Rattle.std.proofs.Common.{◌≡◌, take}
use Rattle.bus_model.specs.Buses.{cost_of, arch_value}
use Rattle.bus_model.proofs.costs.cost.Given as goal

abbrev pub invariant-loop-bus : goal.invariant-loop-bus
invariant-loop-bus l = l.most ≡ cost_of l.table (take l.bus-index (arch_value l.arch))
