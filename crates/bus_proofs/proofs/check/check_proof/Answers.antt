use Rattle.bus_proofs.proofs.ProofChecks.{room_bound}
use Rattle.bus_proofs.proofs.check.check_proof.Goals as goal

pub returns-clause-bound : goal.returns-clause-bound
returns-clause-bound c =
    room_bound c.check_in.result c.room.view_is c.accepted_proofs_are_bounds.ensures c.room.invariant.basis_is c.check_in.ensures.accepted
