use Rattle.std.proofs.Common.{◌≡◌, take}
use Rattle.bit_machine.specs.Lanes.{resting_bits}
use Rattle.bit_machine.proofs.stepped.rings_of.Given as goal

abbrev pub invariant-loop-path : goal.invariant-loop-path
invariant-loop-path l = l.rings.items ≡ resting_bits (take l.path-index l.paths)
