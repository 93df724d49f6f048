use Rattle.std.proofs.Common.{◌<◌, length}
use Rattle.arch_schedule.proofs.dealing.chosen_slot.Given as goal

abbrev pub invariant-loop-slot : goal.invariant-loop-slot
invariant-loop-slot l = l.chosen < length l.buses.widths.items
