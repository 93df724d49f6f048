use Rattle.bus_proofs.proofs.AcceptedProofs.{no_fault}
use Rattle.bus_proofs.proofs.laws.accepted_proofs_have_no_fault.Goals as goal

pub returns : goal.returns
returns c = no_fault
