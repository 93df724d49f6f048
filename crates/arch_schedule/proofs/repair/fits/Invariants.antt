use Rattle.std.proofs.Common.{◌≡◌, length}
use Rattle.arch_schedule.specs.Buses.{AreBuses, AreAlike, AreTimesOn}
use Rattle.arch_schedule.proofs.repair.fits.Given as goal

abbrev pub invariant-loop-wire : goal.invariant-loop-wire
invariant-loop-wire l = record {
  buses : AreBuses l.buses;
  alike : AreAlike l.initial.buses l.buses;
  times : AreTimesOn l.buses l.times;
  less : length l.less.items ≡ length l.buses.widths.items;
}
