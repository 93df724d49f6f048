use Rattle.std.proofs.Common.{◌≡◌, drop}
use Rattle.soc_model.specs.Chips.{soc_value}
use Rattle.test_data.specs.DataPlaces.{entries_in}
use Rattle.test_data.specs.Suiting.{first_of, wrong_bits}
use Rattle.test_data.proofs.misfits.first_wrong_bits.Given as goal

abbrev pub invariant-loop-entry : goal.invariant-loop-entry
invariant-loop-entry l =
    first_of (wrong_bits (soc_value l.soc)) (entries_in l.bytes l.entries) ≡ first_of (wrong_bits (soc_value l.soc)) (entries_in l.bytes (drop l.entry-index l.entries))
