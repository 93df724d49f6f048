use Rattle.bus_proofs.proofs.ProofChecks.{fits_begun}
use Rattle.bus_proofs.proofs.check.begin_work.Goals as goal

pub returns-clause-leaves : goal.returns-clause-leaves
returns-clause-leaves c = λ g fits. fits_begun g c.args.leaf.now fits
