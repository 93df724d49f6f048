use Rattle.std.proofs.Common.{◌≤◌, List, length}
use Rattle.width_tree.specs.Cases.{NodeCase}
use Rattle.width_tree.specs.Tables.{chip_of}
use Rattle.width_tree.specs.Findings.{AreWidths}
use Rattle.width_tree.specs.Walks.{Awaits}
use Rattle.width_tree.proofs.walk.next_branch.Given as goal

abbrev pub invariant-loop-depth : goal.invariant-loop-depth
invariant-loop-depth l = record {
  widths : AreWidths l.table.wires (length (chip_of l.table).modules) l.table.times.now l.widths;
  few : l.depth ≤ l.under_way;
  awaits : (rest : List NodeCase) → Awaits (chip_of l.table) l.table.wires l.table.times.now l.initial.stack l.under_way l.initial.widths.intervals.items rest → Awaits (chip_of l.table) l.table.wires l.table.times.now l.stack l.depth l.widths.intervals.items rest;
}

abbrev pub decreases-loop-depth : goal.decreases-loop-depth
decreases-loop-depth l = l.depth
