use Rattle.vector_lines.specs.Vectors.{ArePutAcross}
use Rattle.vector_lines.proofs.lines.put_across.Given as goal

abbrev pub invariant-loop-column : goal.invariant-loop-column
invariant-loop-column l = ArePutAcross l.fn.wires l.fn.row l.fn.from l.column l.byte l.initial.text l.text
