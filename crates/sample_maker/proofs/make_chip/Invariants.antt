use Rattle.std.proofs.Common.{◌≡◌}
use Rattle.soc_model.specs.Chips.{soc_value}
use Rattle.sample_maker.specs.Samples.{made_chip}
use Rattle.sample_maker.proofs.make_chip.Given as goal

abbrev pub invariant-loop-done : goal.invariant-loop-done
invariant-loop-done l = soc_value l.soc ≡ made_chip l.done l.seed
