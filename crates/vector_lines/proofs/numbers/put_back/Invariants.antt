use Rattle.std.proofs.Common.{ℕ, ◌+◌, ◌-◌, ◌≤◌, drop, slice_index}
use Rattle.vector_lines.specs.Numbers.{all_numbers, IsWalk}
use Rattle.vector_lines.specs.Vectors.{ArePutDown}
use Rattle.vector_lines.proofs.numbers.put_back.Given as goal

abbrev pub invariant-loop-above : goal.invariant-loop-above
invariant-loop-above g l = record {
  few : l.above ≤ l.count;
  walk : IsWalk l.runs (g.B.PatternBits.value_of l.bits) l.walk (drop (l.last + 1 - l.above) (all_numbers l.runs));
  text : ArePutDown l.at.wires (l.at.row + l.above) (l.count - l.above) l.at.column (λ (i : ℕ). g.B.PatternBits.byte_of l.bits (slice_index (all_numbers l.runs) (l.last - (l.above + i)))) l.initial.text l.text;
}

abbrev pub decreases-loop-above : goal.decreases-loop-above
decreases-loop-above g l = l.above
