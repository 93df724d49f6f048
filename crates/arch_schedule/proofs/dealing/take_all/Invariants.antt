use Rattle.std.proofs.Common.{◌≡◌, ◌<◌, length, All}
use Rattle.arch_schedule.specs.Buses.{AreBuses, AreAlike, AreTimesOn}
use Rattle.arch_schedule.specs.Dealing.{IsTaken}
use Rattle.arch_schedule.proofs.dealing.take_all.Given as goal

abbrev pub invariant-loop-place : goal.invariant-loop-place
invariant-loop-place l = record {
  buses : AreBuses l.buses;
  alike : AreAlike l.initial.buses l.buses;
  times : AreTimesOn l.buses l.times;
  long : length l.taken.items ≡ length l.initial.taken.items;
  taken : All (IsTaken (length l.buses.widths.items) (length l.buses.slots.items)) l.taken.items;
  modules : l.modules ≡ length l.buses.slots.items;
  any : l.any < l.modules;
}
