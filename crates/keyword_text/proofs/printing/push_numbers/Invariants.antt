use Rattle.std.proofs.Common.{◌≡◌, ◌++◌, drop}
use Rattle.keyword_text.specs.Lines.{spaced_numbers}
use Rattle.keyword_text.proofs.printing.push_numbers.Given as goal

abbrev pub invariant-loop-n : goal.invariant-loop-n
invariant-loop-n l = l.to.items ++ spaced_numbers (drop l.n-index l.numbers) ≡ l.fn.to.items ++ spaced_numbers l.numbers
