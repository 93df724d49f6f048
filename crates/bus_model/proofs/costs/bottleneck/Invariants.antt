use Rattle.std.proofs.Common.{◌≡◌, get_or}
use Rattle.std.specs.List.{IsFirstMaxByKey}
use Rattle.bus_model.specs.Buses.{bus_time_of, arch_value, no_bus}
use Rattle.bus_model.proofs.costs.bottleneck.Given as goal

abbrev pub invariant-loop-i : goal.invariant-loop-i
invariant-loop-i l = record {
  first : IsFirstMaxByKey (bus_time_of l.table) (arch_value l.arch) l.i l.at;
  time : l.most ≡ bus_time_of l.table (get_or (arch_value l.arch) l.at no_bus);
}
