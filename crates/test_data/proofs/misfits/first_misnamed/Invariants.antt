use Rattle.std.proofs.Common.{◌≡◌, take, drop}
use Rattle.soc_model.specs.Chips.{soc_value}
use Rattle.test_data.specs.DataPlaces.{kept_names}
use Rattle.test_data.specs.Suiting.{first_misnamed, misnamed_after}
use Rattle.test_data.proofs.misfits.first_misnamed.Given as goal

abbrev pub invariant-loop-at : goal.invariant-loop-at
invariant-loop-at l =
    first_misnamed (soc_value l.soc) (kept_names l.entries) ≡ misnamed_after (soc_value l.soc) (kept_names (take l.at l.entries)) (kept_names (drop l.at l.entries))
