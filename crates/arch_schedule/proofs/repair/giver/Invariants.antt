use Rattle.std.proofs.Common.{◌<◌, length, IfSome}
use Rattle.arch_schedule.proofs.repair.giver.Given as goal

abbrev pub invariant-loop-slot : goal.invariant-loop-slot
invariant-loop-slot l = IfSome l.found (λ slot. slot < length l.less)
