-- What a search keeps, and what it lends.
use Rattle.std.specs.Prelude.{◌≡◌, ℕ, ◌<◌, ◌≤◌, List, length}
use Rattle.std.specs.List.{All}
use Rattle.plan_model.specs.declared.TheConstants.{START_MOST}
use Rattle.resource_table.specs.Schedules.{TableValue, IsSoundTable}
use Rattle.arch_schedule.specs.declared.room.ScheduleRoom.{ScheduleRoom}
use Rattle.arch_search.specs.declared.search.Found.{Found}
use Rattle.arch_schedule.specs.declared.dealing.DealtModule.{DealtModule}
use Rattle.arch_search.specs.declared.setting.SearchSetting.{SearchSetting}
use Rattle.arch_search.specs.declared.state.State.{State}
use Rattle.arch_schedule.specs.Problems.{IsProblem}
use Rattle.arch_search.specs.States.{IsStateOf}
use Rattle.arch_schedule.specs.Dealing.{IsTaken}
use Rattle.arch_search.specs.Settings.{IsSetting}
use Rattle.arch_schedule.specs.Rooms.{HasRoomFor}

pub record IsSearch (s : SearchSetting) (table : TableValue) (room : ScheduleRoom) (taken : List DealtModule) (less : List ℕ)
    (best current next : State) : Type 0 where
  pub setting : IsSetting s
  pub is_problem : IsProblem table.job s.problem.now
  pub is_sound : IsSoundTable table
  pub has_room : HasRoomFor s.problem.now room
  pub are_taken : All (IsTaken s.problem.now.wires (length s.problem.now.modules.items)) taken
  pub as_many_less : length less ≡ s.problem.now.wires
  pub best_is : IsStateOf s.problem.now best
  pub current_is : IsStateOf s.problem.now current
  pub next_is : IsStateOf s.problem.now next

-- what is lent of a search: a slot for each module, an order of the tests, and their starts, none of which is too great
pub record IsLent (f : Found) : Type 0 where
  pub modules : length f.slots.now ≡ length f.problem.now.modules.items
  pub order : All (λ test. test < length f.problem.now.tests.items) f.order.now
  pub starts : length f.starts.now ≡ length f.problem.now.tests.items
  pub small : All (λ start. start ≤ START_MOST) f.starts.now
