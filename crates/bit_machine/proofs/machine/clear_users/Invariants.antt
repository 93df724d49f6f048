use Rattle.bit_machine.proofs.Assigning.{IsClear}
use Rattle.bit_machine.proofs.machine.clear_users.Given as goal

abbrev pub invariant-loop-wire : goal.invariant-loop-wire
invariant-loop-wire l = IsClear l.users l.wire
