use Rattle.std.proofs.Common.{◌≡◌, take}
use Rattle.soc_model.specs.Chips.{module_value}
use Rattle.proof_facts.specs.Times.{tam_times_of}
use Rattle.proof_facts.proofs.times.tam_time.Given as goal

abbrev pub invariant-loop-test : goal.invariant-loop-test
invariant-loop-test l = l.sum ≡ tam_times_of (module_value l.module) l.packing.width (take l.test-index l.test-items)
