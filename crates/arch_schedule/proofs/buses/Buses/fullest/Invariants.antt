use Rattle.std.proofs.Common.{◌<◌, length, IfSome}
use Rattle.arch_schedule.proofs.buses.Buses.fullest.Given as goal

abbrev pub invariant-loop-slot : goal.invariant-loop-slot
invariant-loop-slot l = IfSome l.fullest (λ slot. slot < length l.self.widths.items)
