-- Where modules and tests stand in a chip.
use Rattle.std.specs.Prelude.{ℕ, Bool, Option, None, Some, List, [], option_map, nat_eq, position, slice_get}
use Rattle.std.specs.List.{list_any}
use Rattle.soc_model.specs.declared.Test.{Test}
use Rattle.soc_model.specs.declared.TestId.{TestId}
use Rattle.soc_model.specs.Chips.{ModuleValue, SocValue}

-- the place of the module that is found by the number
abbrev pub module_place : SocValue → ℕ → Option ℕ
module_place soc number = position (nat_eq number) soc.keys

-- a module is found by the number
abbrev pub has_module_number : SocValue → ℕ → Bool
has_module_number soc number = list_any (nat_eq number) soc.keys

abbrev pub tests_of : Option ModuleValue → List Test
tests_of None = []
tests_of (Some m) = m.tests

-- the place of the first test of that number in the module at a place
abbrev pub test_place_in : SocValue → ℕ → ℕ → Option ℕ
test_place_in soc number place = position (λ (t : Test). nat_eq number t.number) (tests_of (slice_get soc.modules place))

abbrev pub with_test : SocValue → TestId → Option ℕ → Option (ℕ × ℕ)
with_test soc id None = None
with_test soc id (Some place) = option_map (λ (n : ℕ). (place, n)) (test_place_in soc id.test place)

-- the places of a module and of its test, where the chip has both
abbrev pub test_places : SocValue → TestId → Option (ℕ × ℕ)
test_places soc id = with_test soc id (module_place soc id.module)
