use Rattle.arch_schedule.specs.Buses.{AreBuses, AreAlike, AreTimesOn}
use Rattle.arch_schedule.proofs.buses.Buses.reload_all.Given as goal

abbrev pub invariant-loop-slot : goal.invariant-loop-slot
invariant-loop-slot l = record {
  buses : AreBuses l.self;
  alike : AreAlike l.initial.self l.self;
  times : AreTimesOn l.self l.times;
}
