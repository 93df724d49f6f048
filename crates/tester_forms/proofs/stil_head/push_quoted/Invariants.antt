use Rattle.std.proofs.Common.{◌≡◌, ◌++◌, drop, map}
use Rattle.tester_forms.specs.StilText.{quoted_byte}
use Rattle.tester_forms.proofs.stil_head.push_quoted.Given as goal

abbrev pub invariant-loop-byte : goal.invariant-loop-byte
invariant-loop-byte l = l.text.items ++ map quoted_byte (drop l.byte-index l.name) ≡ l.initial.text.items ++ map quoted_byte l.name
