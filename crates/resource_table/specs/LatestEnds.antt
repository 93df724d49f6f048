-- Until when the placed tests of children run at the latest.
use Rattle.std.specs.Prelude.{◌≡◌, ℕ, ◌<◌, ◌≤◌, Some, List, length, slice_get, slice_index_or, vec_capacity}
use Rattle.busy_times.specs.declared.latest_ends.LatestEnds.{LatestEnds}
use Rattle.resource_table.specs.declared.Placement.{Placement}
use Rattle.resource_table.specs.Jobs.{JobValue, test_at}
use Rattle.resource_table.specs.Schedules.{end_of}

-- a placed test, of a child of the module at a place
pub record IsChildAt (job : JobValue) (placed : List Placement) (k n : ℕ) (p : Placement) : Type 0 where
  pub there : slice_get placed n ≡ Some p
  pub parent : (test_at job p.test).parent ≡ Some k

-- the placed tests of children end by what stands at the place of their parent, and by what stood there before later ones were placed
pub record AreLatestEnds (job : JobValue) (placed : List Placement) (modules : ℕ) (latest : LatestEnds) : Type 0 where
  pub long : length latest.ends.items ≡ modules
  pub now : (k n : ℕ) (p : Placement) → IsChildAt job placed k n p → end_of job p ≤ slice_index_or latest.ends.items k 0
  pub levels : length latest.before.items ≡ length placed
  pub past : (k n later : ℕ) (p q : Placement) → n < later → IsChildAt job placed k n p → IsChildAt job placed k later q →
      end_of job p ≤ slice_index_or latest.before.items later 0
  pub room : length job.tests ≤ vec_capacity latest.before
