use Rattle.bit_machine.specs.Lanes.{AreAtRest}
use Rattle.bit_machine.proofs.stepped.resting_lanes.Given as goal

abbrev pub invariant-loop-lane : goal.invariant-loop-lane
invariant-loop-lane l = AreAtRest l.yielded l.stepped.items
