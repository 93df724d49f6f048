use Rattle.std.proofs.Common.{ℕ}
use Rattle.width_tree.specs.Trees.{node_value}
use Rattle.width_tree.specs.Cases.{in_case}
use Rattle.width_tree.specs.Tables.{chip_of}
use Rattle.width_tree.proofs.OpenSplits.{judged_any}
use Rattle.width_tree.proofs.walk.check_node.Goals as goal

pub returns-in-Err-clause-judged : goal.returns-in-Err-clause-judged
returns-in-Err-clause-judged c =
    judged_any (Unit {0}) ℕ (chip_of c.args.table.now) c.args.table.now.wires c.args.by.claimed c.args.by.place (in_case c.args.widths.now.intervals.items (node_value c.args.node.now)) c.in-Err.fault
    (c.in-Err.ensures (chip_of c.args.table.now) c.args.table.now.wires c.args.widths.now.intervals.items (node_value c.args.node.now) c.find_shown-finding.ensures.finding)
