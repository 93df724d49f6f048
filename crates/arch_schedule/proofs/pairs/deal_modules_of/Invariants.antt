use Rattle.arch_schedule.specs.Buses.{AreBuses, AreAlike, AreTimesOn}
use Rattle.arch_schedule.proofs.pairs.deal_modules_of.Given as goal

abbrev pub invariant-loop-module : goal.invariant-loop-module
invariant-loop-module l = record {
  buses : AreBuses l.buses;
  alike : AreAlike l.initial.buses l.buses;
  times : AreTimesOn l.buses l.times;
}
