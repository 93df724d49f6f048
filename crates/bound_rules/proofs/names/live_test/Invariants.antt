use Rattle.std.proofs.Common.{◌≡◌, drop}
use Rattle.std.specs.List.{find}
use Rattle.bound_rules.specs.Named.{is_named}
use Rattle.bound_rules.proofs.names.live_test.Given as goal

abbrev pub invariant-loop-test : goal.invariant-loop-test
invariant-loop-test l = find (is_named l.number) l.tests ≡ find (is_named l.number) (drop l.test-index l.tests)
