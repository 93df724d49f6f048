use Rattle.std.proofs.Common.{◌≡◌, map, not, find, flat_map}
use Rattle.soc_model.specs.Chips.{module_value, soc_value}
use Rattle.test_data.specs.DataPlaces.{kept_names}
use Rattle.test_data.specs.Suiting.{first_missing, has_name, tam_names_in}
use Rattle.test_data.proofs.misfits.first_missing.Given as goal

abbrev pub invariant-loop-module : goal.invariant-loop-module
invariant-loop-module l =
    first_missing (soc_value l.soc) (kept_names l.entries)
    ≡ find (λ id. not (has_name (kept_names l.entries) id)) (flat_map tam_names_in (map module_value l.module-iterator))
