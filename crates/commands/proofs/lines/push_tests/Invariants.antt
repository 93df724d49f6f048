use Rattle.std.proofs.Common.{◌≡◌, ◌++◌, take, IsTrue, flat_map}
use Rattle.commands.specs.Texts.{no_feed, spaced_test}
use Rattle.commands.proofs.lines.push_tests.Given as goal

abbrev pub invariant-loop-test : goal.invariant-loop-test
invariant-loop-test l = (l.to.items ≡ l.initial.to.items ++ flat_map spaced_test (take l.test-index l.tests)) × (IsTrue (no_feed l.initial.to.items) → IsTrue (no_feed l.to.items))
