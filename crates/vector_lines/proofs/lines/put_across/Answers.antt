use Rattle.std.proofs.Common.{arith}
use Rattle.vector_lines.proofs.Columns.{none_across, across_more}
use Rattle.vector_lines.proofs.lines.put_across.Goals as goal

pub loop-column-init : goal.loop-column-init
loop-column-init c = none_across c.args.wires c.args.row c.args.from c.args.byte c.args.text.now

pub loop-column-preserved : goal.loop-column-preserved
loop-column-preserved c =
    across_more c.args.wires c.args.row _ (omega (arith, c.requires.column, c.loop-column-test.true)) (omega (arith, c.requires.row, c.loop-column.invariant.long)) (omega arith) c.loop-column.invariant
