use Rattle.std.proofs.Common.{◌≡◌, ℕ, ◌+◌, ◌-◌, ◌^◌, ◌<◌, length}
use Rattle.vector_lines.specs.Vectors.{ArePutDown}
use Rattle.vector_lines.proofs.numbers.put_run.Given as goal

abbrev pub invariant-loop-place : goal.invariant-loop-place
invariant-loop-place g l = record {
  long : length l.text ≡ length l.initial.text;
  value : (n : ℕ) → l.first ≡ g.B.PatternBits.value_of l.bits n → n + l.count < 2 ^ 64 → l.value ≡ g.B.PatternBits.value_of l.bits (n + l.place);
  text : (n : ℕ) → l.first ≡ g.B.PatternBits.value_of l.bits n → n + l.count < 2 ^ 64 → ArePutDown l.at.wires (l.at.row + (l.count - l.place)) l.place l.at.column
      (λ (i : ℕ). g.B.PatternBits.byte_of l.bits (n + (l.place - 1 - i))) l.initial.text l.text;
}
