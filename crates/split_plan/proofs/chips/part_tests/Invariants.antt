use Rattle.std.proofs.Common.{◌≡◌, map, take}
use Rattle.split_plan.specs.Cuts.{part_test, pieces}
use Rattle.split_plan.proofs.chips.part_tests.Given as goal

abbrev pub invariant-loop-cut : goal.invariant-loop-cut
invariant-loop-cut l = l.tests.items ≡ map part_test (pieces (take l.cut-index l.cuts))
