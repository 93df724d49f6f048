-- The live tests of a chip by the places of their modules.
use Rattle.std.specs.Prelude.{◌≡◌, ℕ, ◌+◌, Some, List, length, map, take, position, slice_get}
use Rattle.std.specs.List.{range_with_len}
use Rattle.soc_model.specs.Chips.{SocValue, LiveTest, live_tests, live_from, id_of, same_test}
use Rattle.plan_model.specs.declared.Limits.{Limits}
use Rattle.plan_model.specs.declared.Profile.{Profile}
use Rattle.leaf_bounds.specs.declared.test_table.TestTable.{TestTable}
use Rattle.leaf_bounds.specs.declared.test_table.TestPlace.{TestPlace}

-- the live test is the one at these places, with the profile of its name
pub record IsTestAt (soc : SocValue) (limits : Limits) (l : LiveTest) (t : TestPlace) : Type 0 where
  pub «module» : t.«module» ≡ l.place
  pub core : slice_get soc.modules l.place ≡ Some l.core
  pub test : slice_get l.core.tests t.test ≡ Some l.test
  pub profile : t.profile ≡ position (λ (p : Profile). same_test p.test (id_of l)) limits.profiles.items

-- each of the live tests is the one at the places beside it
pub record AreTestsAt (soc : SocValue) (limits : Limits) (ls : List LiveTest) (ts : List TestPlace) : Type 0 where
  pub long : length ts ≡ length ls
  pub at : (i : ℕ) (l : LiveTest) (t : TestPlace) → slice_get ls i ≡ Some l → slice_get ts i ≡ Some t → IsTestAt soc limits l t

-- how many live tests stand before those of the module at a place
abbrev pub tests_before : SocValue → (place : ℕ) → ℕ
tests_before soc place = length (live_from 0 (take place soc.modules))

-- The table has all live tests in order, and where those of each module begin, and end.
pub record IsTestTable (soc : SocValue) (limits : Limits) (table : TestTable) : Type 0 where
  pub tests : AreTestsAt soc limits (live_tests soc) table.tests.items
  pub starts : table.starts.items ≡ map (tests_before soc) (range_with_len 0 (length soc.modules + 1))
