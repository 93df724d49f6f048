use Rattle.bit_machine.proofs.Assigning.{Given}
use Rattle.bit_machine.proofs.machine.give_wires.Given as goal

abbrev pub invariant-loop-wire : goal.invariant-loop-wire
invariant-loop-wire l = Given l.initial.users l.users l.place l.lane.first_wire l.wire
