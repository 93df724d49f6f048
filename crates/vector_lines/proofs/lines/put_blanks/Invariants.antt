use Rattle.std.proofs.Common.{◌≡◌, ℕ, ◌<◌, length}
use Rattle.vector_lines.specs.Vectors.{IsBlank}
use Rattle.vector_lines.proofs.lines.put_blanks.Given as goal

abbrev pub invariant-loop-row : goal.invariant-loop-row
invariant-loop-row l = record {
  long : length l.text ≡ length l.initial.text;
  blank : (r : ℕ) → r < l.row → IsBlank l.wires r l.text;
}
