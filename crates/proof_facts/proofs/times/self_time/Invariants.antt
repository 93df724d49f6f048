use Rattle.std.proofs.Common.{◌≡◌, take}
use Rattle.proof_facts.specs.Times.{self_times_of}
use Rattle.proof_facts.proofs.times.self_time.Given as goal

abbrev pub invariant-loop-test : goal.invariant-loop-test
invariant-loop-test l = l.sum ≡ self_times_of (take l.test-index l.test-items)
