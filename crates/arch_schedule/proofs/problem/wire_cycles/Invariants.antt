use Rattle.std.proofs.Common.{◌≡◌, ◌+◌, length}
use Rattle.arch_schedule.proofs.problem.wire_cycles.Given as goal

abbrev pub invariant-loop-width : goal.invariant-loop-width
invariant-loop-width l = length l.row.items ≡ l.wires + 1
