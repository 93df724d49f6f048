use Rattle.std.proofs.Common.{◌≡◌, ◌++◌, map, drop, decimal}
use Rattle.soc_printer.specs.SocText.{spaced}
use Rattle.soc_printer.proofs.push_counts.Given as goal

abbrev pub invariant-loop-number : goal.invariant-loop-number
invariant-loop-number l = l.text.items ++ spaced (map decimal (drop l.number-index l.numbers)) ≡ l.initial.text.items ++ spaced (map decimal l.numbers)
