use Rattle.std.proofs.Common.{◌≡◌, get_or}
use Rattle.bus_model.specs.Buses.{bus_time_of, arch_value, no_bus}
use Rattle.bus_model.proofs.Least.{IsFirstLeast}
use Rattle.bus_model.proofs.costs.quickest.Given as goal

abbrev pub invariant-loop-i : goal.invariant-loop-i
invariant-loop-i l = record {
  first : IsFirstLeast (bus_time_of l.table) (arch_value l.arch) no_bus l.i l.at;
  time : l.least ≡ bus_time_of l.table (get_or (arch_value l.arch) l.at no_bus);
}
