use Rattle.std.proofs.Common.{◌≡◌, ◌++◌, drop, flat_map}
use Rattle.keyword_text.specs.Lines.{spaced_numbers}
use Rattle.proof_text.specs.ProofLines.{test_numbers}
use Rattle.proof_text.proofs.printing.push_tests.Given as goal

abbrev pub invariant-loop-test : goal.invariant-loop-test
invariant-loop-test l = l.to.items ++ spaced_numbers (flat_map test_numbers (drop l.test-index l.tests)) ≡ l.fn.to.items ++ spaced_numbers (flat_map test_numbers l.tests)
