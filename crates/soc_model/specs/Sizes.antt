-- The limits on the size of a chip, and the first that a chip passes.
use Rattle.std.specs.Prelude.{◌≡◌, ℕ, ◌+◌, ◌*◌, ◌<◌, Option, None, Some, List, [], ◌∷◌, ◌++◌, map, length, nat_lt, find, sum, sum_by, if◌then◌else◌}
use Rattle.std.specs.List.{flat_map, All}
use Rattle.soc_model.specs.declared.Test.{Test}
use Rattle.soc_model.specs.declared.Which.{Which}
use Rattle.soc_model.specs.declared.Which.TheVariants.{Modules, Tests, Chains, Power, Work}
use Rattle.soc_model.specs.declared.SocLimit.{SocLimit}
use Rattle.soc_model.specs.declared.TheConstants.{MODULES_MOST, TESTS_MOST, CHAINS_MOST, POWER_MOST, WORK_MOST, NUMBER_WORD_MOST}
use Rattle.soc_model.specs.Chips.{ModuleValue, SocValue, LiveTest, live_tests}

abbrev pub all_tests : SocValue → List Test
all_tests soc = flat_map (λ (m : ModuleValue). m.tests) soc.modules

-- Patterns times all cells of the module, and the setup where the test goes over the wires: no wrapper makes the test
-- longer.
abbrev pub test_work : ModuleValue → Test → ℕ
test_work m t = t.patterns * (1 + (m.inputs + m.bidirs) + (m.outputs + m.bidirs) + 2 * sum m.chains) + (if t.tam then m.setup else 0)

-- the work of all live tests
abbrev pub work : SocValue → ℕ
work soc = sum_by (λ (l : LiveTest). test_work l.core l.test) (live_tests soc)

-- the number, where it is more than this
abbrev pub over : (most n : ℕ) → Option ℕ
over most n = if nat_lt most n then Some n else None

-- the number that passes this limit, where one does: of scan chains and of power the first in the chip
abbrev pub passed : SocValue → Which → Option ℕ
passed soc Modules = over MODULES_MOST (length soc.modules)
passed soc Tests = over TESTS_MOST (length (all_tests soc))
passed soc Chains = find (nat_lt CHAINS_MOST) (map (λ (m : ModuleValue). length m.chains) soc.modules)
passed soc Power = find (nat_lt POWER_MOST) (map (λ (t : Test). t.power) (all_tests soc))
passed soc Work = over WORK_MOST (work soc)

abbrev pub rank_of : Which → ℕ
rank_of Modules = 0
rank_of Tests = 1
rank_of Chains = 2
rank_of Power = 3
rank_of Work = 4

-- no limit is passed
abbrev pub IsWithinSize : SocValue → Type 0
IsWithinSize soc = (which : Which) → passed soc which ≡ None

-- this limit is passed by this number, and none before it is passed
pub record IsFirstPassed (soc : SocValue) (limit : SocLimit) : Type 0 where
  pub passes : passed soc limit.which ≡ Some limit.value
  pub earlier : (which : Which) → rank_of which < rank_of limit.which → passed soc which ≡ None

-- the numbers of a test, and of a module with its tests
abbrev pub test_numbers : Test → List ℕ
test_numbers t = t.number ∷ t.patterns ∷ t.power ∷ []

abbrev pub module_numbers : ModuleValue → List ℕ
module_numbers m = (m.number ∷ m.level ∷ m.inputs ∷ m.outputs ∷ m.bidirs ∷ m.setup ∷ []) ++ m.chains ++ flat_map test_numbers m.tests

-- every number of the module is one that a number word can have
abbrev pub HasSmall : ModuleValue → Type 0
HasSmall m = All (λ n. n < NUMBER_WORD_MOST + 1) (module_numbers m)

-- every number of the chip is
abbrev pub HasSmallNumbers : SocValue → Type 0
HasSmallNumbers soc = All HasSmall soc.modules
