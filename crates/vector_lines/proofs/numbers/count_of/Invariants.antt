use Rattle.std.proofs.Common.{◌≡◌, length, take}
use Rattle.vector_lines.specs.Numbers.{all_numbers}
use Rattle.vector_lines.proofs.numbers.count_of.Given as goal

abbrev pub invariant-loop-run : goal.invariant-loop-run
invariant-loop-run l = l.count ≡ length (all_numbers (take l.run-index l.runs))
