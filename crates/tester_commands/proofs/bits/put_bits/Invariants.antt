use Rattle.std.proofs.Common.{◌≡◌, ◌+◌, ◌++◌, ◌<◌, ℕ, length, map, take}
use Rattle.std.specs.List.{range_with_len}
use Rattle.vector_lines.specs.Numbers.{line_value}
use Rattle.tester_commands.specs.DataParts.{made_byte}
use Rattle.tester_commands.proofs.bits.put_bits.Given as goal

abbrev pub invariant-loop-done : goal.invariant-loop-done
invariant-loop-done l = record {
  long : length l.bytes ≡ length l.initial.bytes;
  small : l.value < 997;
  put : (n : ℕ) → l.fn.first ≡ line_value l.line n → take (l.from + l.done) l.bytes ≡ take l.from l.initial.bytes ++ map (made_byte l.line) (range_with_len n l.done);
  next : (n : ℕ) → l.fn.first ≡ line_value l.line n → l.value ≡ line_value l.line (n + l.done);
}
