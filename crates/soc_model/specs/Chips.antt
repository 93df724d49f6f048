-- A chip as plain lists and numbers: its modules, their tests, and the parent of a module.
use Rattle.std.specs.Prelude.{ℕ, zero, suc, ◌+◌, ◌<◌, ◌≤◌, Bool, Option, None, Some, List, [], ◌∷◌, ◌++◌, ◌&&◌, map, slice_index, nat_lt, nat_le, nat_eq, if◌then◌else◌}
use Rattle.std.specs.List.{filter}
use Rattle.soc_model.specs.declared.Test.{Test}
use Rattle.soc_model.specs.declared.TestId.{TestId}
use Rattle.soc_model.specs.declared.Module.{Module}
use Rattle.soc_model.specs.declared.Soc.{Soc}

-- a module, without where its lists lie in memory
pub record ModuleValue : Type 0 where
  pub number : ℕ
  pub name : List ℕ
  pub level : ℕ
  pub inputs : ℕ
  pub outputs : ℕ
  pub bidirs : ℕ
  pub setup : ℕ
  pub chains : List ℕ
  pub tests : List Test

-- A chip: its modules by first mention, and beside them the numbers that they are found by.
pub record SocValue : Type 0 where
  pub name : List ℕ
  pub power_flag : Bool
  pub xy_flag : Bool
  pub keys : List ℕ
  pub modules : List ModuleValue

abbrev pub module_value : Module → ModuleValue
module_value m = record {
  number = m.number;
  name = m.name.items;
  level = m.level;
  inputs = m.inputs;
  outputs = m.outputs;
  bidirs = m.bidirs;
  setup = m.setup;
  chains = m.chains.items;
  tests = m.tests.items;
}

abbrev pub soc_value : Soc → SocValue
soc_value s = record {
  name = s.name.items;
  power_flag = s.power_flag;
  xy_flag = s.xy_flag;
  keys = map (λ (e : ℕ × Module). e.0) s.modules.entries;
  modules = map (λ (e : ℕ × Module). module_value e.1) s.modules.entries;
}

-- the modules' own numbers
abbrev pub numbers : SocValue → List ℕ
numbers soc = map (λ (m : ModuleValue). m.number) soc.modules

-- a test of at least one pattern
abbrev pub is_live : Test → Bool
is_live t = nat_le 1 t.patterns

abbrev pub same_test : TestId → TestId → Bool
same_test a b = nat_eq a.module b.module && nat_eq a.test b.test

-- ---- the parent of a module; modules go by their places

abbrev pub level_at : List ModuleValue → ℕ → ℕ
level_at modules place = slice_index (map (λ (m : ModuleValue). m.level) modules) place

-- the nearest module before this one whose level is smaller
pub record IsParent (modules : List ModuleValue) (parent place : ℕ) : Type 0 where
  pub earlier : parent < place
  pub smaller : level_at modules parent < level_at modules place
  pub nearest : (q : ℕ) → parent < q → q < place → level_at modules place ≤ level_at modules q

-- the last place below `n` of a smaller level
abbrev pub smaller_below : List ModuleValue → (level n : ℕ) → Option ℕ
smaller_below modules level zero = None
smaller_below modules level (suc n) = if nat_lt (level_at modules n) level then Some n else smaller_below modules level n

-- the place of the parent of the module at a place
abbrev pub parent_place : List ModuleValue → ℕ → Option ℕ
parent_place modules place = smaller_below modules (level_at modules place) place

-- ---- live tests

-- a live test, with its module and the place of that in the chip
pub record LiveTest : Type 0 where
  pub place : ℕ
  pub core : ModuleValue
  pub test : Test

abbrev pub live_of : ℕ → ModuleValue → List LiveTest
live_of place m = map (λ (t : Test). record { place = place; core = m; test = t }) (filter is_live m.tests)

-- the live tests of modules, in their order and then the order of their tests
unfoldable pub live_from : ℕ → List ModuleValue → List LiveTest
live_from place [] = []
live_from place (m ∷ ms) = live_of place m ++ live_from (place + 1) ms

abbrev pub live_tests : SocValue → List LiveTest
live_tests soc = live_from 0 soc.modules

abbrev pub id_of : LiveTest → TestId
id_of l = record { «module» = l.core.number; test = l.test.number }
