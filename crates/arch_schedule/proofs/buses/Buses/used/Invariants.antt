use Rattle.std.proofs.Common.{◌≤◌, length}
use Rattle.arch_schedule.proofs.buses.Buses.used.Given as goal

abbrev pub invariant-loop-slot : goal.invariant-loop-slot
invariant-loop-slot l = l.used ≤ length l.self.widths.items
