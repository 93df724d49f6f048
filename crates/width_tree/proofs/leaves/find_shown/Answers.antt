use Rattle.std.proofs.Common.{ap}
use Rattle.width_tree.specs.Trees.{node_value}
use Rattle.width_tree.specs.Tables.{chip_of}
use Rattle.width_tree.proofs.WidthFacts.{bus_found}
use Rattle.width_tree.proofs.leaves.find_shown.Goals as goal

pub returns-in-Bus-clause-finding : goal.returns-in-Bus-clause-finding
returns-in-Bus-clause-finding c =
    bus_found (chip_of c.args.table.now) c.args.table.now.wires c.args.widths.now.intervals.items c.deref-in-Bus.result.now (node_value c.args.node.now) c.in-Bus.modules.items c.deref-in-Bus-2.result.now c.find_bus.result (ap node_value c.in-Bus.is) c.deref-in-Bus.ensures.value c.deref-in-Bus-2.ensures.value c.find_bus.ensures.finding
