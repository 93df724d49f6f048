use Rattle.std.proofs.Common.{arith}
use Rattle.bit_machine.proofs.PathBits.{path_captured}
use Rattle.bit_machine.proofs.stepping.capture_ring.Goals as goal

pub returns-clause-bits : goal.returns-clause-bits
returns-clause-bits c = λ inputs lengths cells is same.
    path_captured is same (omega (arith, c.len.ensures, c.len-count.ensures)) (omega (arith, c.loop-place-test.false, c.len-count.ensures)) c.loop-place.invariant.done
