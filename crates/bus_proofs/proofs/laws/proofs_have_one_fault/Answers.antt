use Rattle.bus_proofs.proofs.AcceptedProofs.{one_fault}
use Rattle.bus_proofs.proofs.laws.proofs_have_one_fault.Goals as goal

pub returns : goal.returns
returns c = one_fault
