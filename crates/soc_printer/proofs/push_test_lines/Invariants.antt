use Rattle.std.proofs.Common.{◌≡◌, ◌++◌, drop}
use Rattle.std.specs.List.{flat_map}
use Rattle.soc_printer.specs.SocText.{test_line}
use Rattle.soc_printer.proofs.push_test_lines.Given as goal

abbrev pub invariant-loop-test : goal.invariant-loop-test
invariant-loop-test l = l.text.items ++ flat_map (test_line l.number) (drop l.test-index l.tests) ≡ l.initial.text.items ++ flat_map (test_line l.number) l.tests
