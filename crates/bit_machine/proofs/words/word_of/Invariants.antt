use Rattle.std.proofs.Common.{◌+◌, drop}
use Rattle.vector_lines.specs.Numbers.{all_numbers, line_value, IsWalk}
use Rattle.bit_machine.proofs.WordBits.{IsWordUpTo}
use Rattle.bit_machine.proofs.words.word_of.Given as goal

abbrev pub invariant-loop-place : goal.invariant-loop-place
invariant-loop-place l = record {
  walk : IsWalk l.runs (line_value l.line) l.walk (drop (l.first + l.place) (all_numbers l.runs));
  word : IsWordUpTo l.line (all_numbers l.runs) l.first l.place l.word;
}
