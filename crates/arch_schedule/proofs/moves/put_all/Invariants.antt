use Rattle.arch_schedule.specs.Buses.{AreBuses, AreAlike}
use Rattle.arch_schedule.proofs.moves.put_all.Given as goal

abbrev pub invariant-loop-module : goal.invariant-loop-module
invariant-loop-module l = record { buses : AreBuses l.buses; alike : AreAlike l.initial.buses l.buses }
