use Rattle.std.proofs.Common.{◌≡◌, take}
use Rattle.bound_rules.specs.Sizes.{tam_times_by}
use Rattle.bound_rules.proofs.sizes.Sizes.tam_times.Given as goal

abbrev pub invariant-loop-test : goal.invariant-loop-test
invariant-loop-test l = l.sum ≡ tam_times_by l.self l.width (take l.test-index l.tests)
