use Rattle.std.proofs.Common.{◌≡◌, drop, map, not, find, filter}
use Rattle.soc_model.specs.Chips.{module_value}
use Rattle.soc_model.specs.Modes.{is_tam}
use Rattle.test_data.specs.DataPlaces.{kept_names}
use Rattle.test_data.specs.Suiting.{has_name, name_in, tam_names_in}
use Rattle.test_data.proofs.misfits.missing_in.Given as goal

abbrev pub invariant-loop-test : goal.invariant-loop-test
invariant-loop-test l =
    find (λ id. not (has_name (kept_names l.entries) id)) (tam_names_in (module_value l.«module»))
    ≡ find (λ id. not (has_name (kept_names l.entries) id)) (map (name_in (module_value l.«module»)) (filter is_tam (drop l.test-index l.«module».tests.items)))
