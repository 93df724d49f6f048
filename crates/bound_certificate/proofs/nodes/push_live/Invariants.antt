use Rattle.std.proofs.Common.{◌≡◌, ◌++◌, map, take, filter}
use Rattle.soc_model.specs.Chips.{is_live, module_value}
use Rattle.bound_certificate.specs.Nodes.{node_values, node_in}
use Rattle.bound_certificate.proofs.nodes.push_live.Given as goal

abbrev pub invariant-loop-test : goal.invariant-loop-test
invariant-loop-test l = node_values l.nodes.items ≡ node_values l.initial.nodes.items ++ map (node_in l.wires (module_value l.«module»)) (filter is_live (take l.test-index l.«module».tests.items))
