-- A test that is taken out of the lists of a prefix.
use Rattle.std.specs.Prelude.{◌≡◌, ℕ, Some, List, slice_get}
use Rattle.resource_table.specs.Jobs.{JobValue}
use Rattle.schedule_search.specs.declared.prefix.TakenOut.{TakenOut}
use Rattle.schedule_search.specs.Prefixes.{outside, followers}

-- it stands at this place among the tests that may follow, and at its own among those outside
pub record IsTakenOut (job : JobValue) (path : List ℕ) (place : ℕ) (taken : TakenOut) : Type 0 where
  pub free_at : slice_get (followers job path) place ≡ Some taken.test
  pub left_at : slice_get (outside job path) taken.left ≡ Some taken.test
