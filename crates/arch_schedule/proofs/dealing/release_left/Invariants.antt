use Rattle.arch_schedule.specs.Buses.{AreBuses, AreAlike, AreTimesOn}
use Rattle.arch_schedule.proofs.dealing.release_left.Given as goal

abbrev pub invariant-loop-place : goal.invariant-loop-place
invariant-loop-place l = record {
  buses : AreBuses l.buses;
  alike : AreAlike l.initial.buses l.buses;
  times : AreTimesOn l.buses l.times;
}
