use Rattle.std.proofs.Common.{◌≡◌, ◌++◌, map, All, flat_map}
use Rattle.soc_model.specs.Chips.{soc_value, module_value}
use Rattle.bound_rules.specs.Sizes.{IsMeasurable}
use Rattle.bound_certificate.specs.Nodes.{node_values, nodes_in, live_nodes}
use Rattle.bound_certificate.proofs.nodes.live_nodes.Given as goal

abbrev pub invariant-loop-module : goal.invariant-loop-module
invariant-loop-module l = record {
  nodes : node_values l.nodes.items ++ flat_map (nodes_in l.wires) (map module_value l.module-iterator) ≡ live_nodes (soc_value l.soc) l.wires;
  works : All IsMeasurable (map module_value l.module-iterator);
}
