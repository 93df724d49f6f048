-- What a search begins with is a search.
use Rattle.std.proofs.Common.{◌≡◌, ◌∙◌, ℕ, zero, suc, ◌≤◌, Result, Ok, List, length, replicate, arith, sym, ap, subst, IfOk, All}
use Rattle.std.proofs.lemmas.List.Elements.{All-nil, All-replicate}
use Rattle.resource_table.specs.Schedules.{TableValue, IsSoundTable}
use Rattle.arch_schedule.specs.declared.dealing.DealtModule.{DealtModule}
use Rattle.arch_schedule.specs.declared.problem.TimedTests.{TimedTests}
use Rattle.arch_schedule.specs.declared.room.ScheduleRoom.{ScheduleRoom}
use Rattle.arch_search.specs.declared.setting.SearchSetting.{SearchSetting}
use Rattle.arch_search.specs.declared.state.State.{State}
use Rattle.arch_schedule.specs.Problems.{IsProblem}
use Rattle.arch_search.specs.States.{IsStateOf}
use Rattle.arch_schedule.specs.Rooms.{HasRoomFor}
use Rattle.arch_search.specs.Searches.{IsSearch}
use Rattle.arch_search.specs.Settings.{IsSetting}
use Rattle.arch_schedule.specs.Dealing.{IsTaken}

-- what holds of a value that was made
pub at_ok : {A E : Type 0} (r : Result A E) (a : A) (P : A → Type 0) → IfOk r P → r ≡ Ok a → P a
at_ok {A = A} {E = E} r a P holds is = subst (λ (s : Result A E). IfOk s P) is holds

pub is_search : (s : SearchSetting) (p : TimedTests) (table : TableValue) (room : ScheduleRoom) (taken : List DealtModule) (less : List ℕ) (best current next : State) → s.problem.now ≡ p →
    IsSetting s → IsProblem table.job p → IsSoundTable table → HasRoomFor p room → All (IsTaken p.wires (length p.modules.items)) taken → length less ≡ p.wires → IsStateOf p best → IsStateOf p current → IsStateOf p next →
    IsSearch s table room taken less best current next
is_search s p table room taken less best current next is setting problem sound has are long b c n = record {
  setting = setting;
  is_problem = subst (λ (q : TimedTests). IsProblem table.job q) (sym is) problem;
  is_sound = sound;
  has_room = subst (λ (q : TimedTests). HasRoomFor q room) (sym is) has;
  are_taken = subst (λ (q : TimedTests). All (IsTaken q.wires (length q.modules.items)) taken) (sym is) are;
  as_many_less = long ∙ ap (λ (q : TimedTests). q.wires) (sym is);
  best_is = subst (λ (q : TimedTests). IsStateOf q best) (sym is) b;
  current_is = subst (λ (q : TimedTests). IsStateOf q current) (sym is) c;
  next_is = subst (λ (q : TimedTests). IsStateOf q next) (sym is) n;
}

-- room for modules that are taken: the first module, where there is one
pub none_taken : (wires modules count : ℕ) (t : DealtModule) → 1 ≤ wires → count ≤ modules → t.«module» ≡ 0 → t.from ≡ 0 → All (IsTaken wires modules) (replicate count t)
none_taken wires modules zero t some few m f = All-nil (IsTaken wires modules)
none_taken wires modules (suc n) t some few m f = All-replicate (IsTaken wires modules) (suc n) t (record { is_module = omega (arith, few, m); is_slot = omega (arith, some, f) })
