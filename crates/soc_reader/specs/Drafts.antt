-- A chip that is being made, with the numbers of its tests beside it.
use Rattle.std.specs.Prelude.{◌≡◌, ℕ, List, map}
use Rattle.soc_model.specs.declared.Test.{Test}
use Rattle.soc_model.specs.Chips.{ModuleValue, soc_value}
use Rattle.soc_reader.specs.declared.build.TestNumbers.{TestNumbers}
use Rattle.soc_reader.specs.declared.build.Draft.{Draft}

abbrev pub test_numbers : List Test → List ℕ
test_numbers ts = map (λ (t : Test). t.number) ts

abbrev pub keys_of_set : TestNumbers → List ℕ
keys_of_set n = n.set.keys

-- the numbers of these tests, in their order
abbrev pub IsNumbered : TestNumbers → List Test → Type 0
IsNumbered n ts = n.set.keys ≡ test_numbers ts

-- the numbers of the tests of each module
abbrev pub IsIndexed : Draft → Type 0
IsIndexed d = map keys_of_set d.numbers.items ≡ map (λ (m : ModuleValue). test_numbers m.tests) (soc_value d.soc).modules
