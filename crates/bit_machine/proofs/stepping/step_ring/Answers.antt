use Rattle.bit_machine.proofs.stepping.step_ring.Goals as goal

pub returns-in-Capture-clause-bits : goal.returns-in-Capture-clause-bits
returns-in-Capture-clause-bits c = λ inputs lengths cells is same. rw c.in-Capture.is (c.capture_ring.ensures.bits inputs lengths cells is same)
