use Rattle.std.proofs.Common.{◌≡◌, ◌+◌, ◌<◌, ◌≤◌, ℕ, Some, length, map, drop, slice_get}
use Rattle.width_tree.specs.Trees.{WidthTree, nodes_of, node_value}
use Rattle.width_tree.specs.Cases.{NodeCase, cases_of}
use Rattle.width_tree.specs.Bounds.{IsEnough}
use Rattle.width_tree.specs.Tables.{chip_of}
use Rattle.width_tree.specs.Findings.{AreWidths, AreOlder}
use Rattle.width_tree.specs.Walks.{GoesOn}
use Rattle.width_tree.proofs.walk.check_nodes.Given as goal

abbrev pub invariant-loop-place : goal.invariant-loop-place
invariant-loop-place l = record {
  widths : AreWidths l.table.wires (length (chip_of l.table).modules) l.table.times.now l.widths;
  older : AreOlder (l.place + 1) l.marks;
  few : l.depth ≤ l.place;
  goes : (t : WidthTree) → nodes_of t ≡ map node_value l.tree.nodes.items → GoesOn (chip_of l.table) l.table.wires l.table.times.now l.stack l.depth l.widths.intervals.items (drop l.place (cases_of (chip_of l.table) l.initial.widths.intervals.items t));
  enough : (t : WidthTree) → nodes_of t ≡ map node_value l.tree.nodes.items → (q : ℕ) (n : NodeCase) → q < l.place → slice_get (cases_of (chip_of l.table) l.initial.widths.intervals.items t) q ≡ Some n → IsEnough (chip_of l.table) l.table.wires l.tree.claimed n;
}
