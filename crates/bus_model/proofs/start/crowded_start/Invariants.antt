use Rattle.std.proofs.Common.{◌≡◌, map, take, ◌++◌, fold, length}
use Rattle.bus_model.specs.Buses.{arch_value}
use Rattle.bus_model.specs.Start.{one_wire, placed_on_quickest}
use Rattle.bus_model.proofs.Starts.{HoldsPlaces}
use Rattle.bus_model.proofs.start.crowded_start.Given as goal

abbrev pub invariant-loop-place : goal.invariant-loop-place
invariant-loop-place l = record {
  value : arch_value l.arch ≡ fold (placed_on_quickest l.table) (map one_wire (take l.table.wires l.order)) (take l.place-index l.rest);
  holds : HoldsPlaces (take l.table.wires l.order ++ take l.place-index l.rest) (arch_value l.arch);
  count : length (arch_value l.arch) ≡ l.table.wires;
}
