use Rattle.arch_schedule.specs.Buses.{AreBuses, AreAlike}
use Rattle.arch_schedule.proofs.splits.part.Given as goal

abbrev pub invariant-loop-other : goal.invariant-loop-other
invariant-loop-other l = record {
  buses : AreBuses l.buses;
  alike : AreAlike l.initial.buses l.buses;
}
