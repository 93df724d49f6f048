-- What a search keeps between its runs: an empty table, and room for what it finds.
use Rattle.std.specs.Prelude.{◌≡◌, ℕ, ◌≤◌, [], length, vec_capacity}
use Rattle.std.specs.Global.{Vec}
use Rattle.resource_table.specs.Jobs.{JobValue, IsSoundJob}
use Rattle.resource_table.specs.Schedules.{TableValue}
use Rattle.schedule_search.specs.declared.search.WalkRoom.{WalkRoom}
use Rattle.schedule_search.specs.declared.tries.OrderTables.{OrderTables}
use Rattle.schedule_search.specs.Orders.{IsFirstOrder}
use Rattle.schedule_search.specs.Prefixes.{HasPrefixRoom}
use Rattle.schedule_search.specs.Progress.{AreTries}

-- room for `tests` tests
pub record HasRoom (tests : ℕ) (room : WalkRoom) : Type 0 where
  pub prefix : HasPrefixRoom tests room.prefix
  pub best : tests ≤ vec_capacity room.progress.best
  pub starts : tests ≤ vec_capacity room.starts

pub record IsKept (job : JobValue) (table : TableValue) (tries : OrderTables) (first : Vec ℕ) (room : WalkRoom) : Type 0 where
  pub sound : IsSoundJob job
  pub empty : table ≡ record { job = job; placed = [] }
  pub goes_by : AreTries job tries
  pub is_first : IsFirstOrder job first.items
  pub has_room : HasRoom (length job.tests) room
