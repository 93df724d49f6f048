use Rattle.proof_facts.proofs.NeverTogether.{never_together}
use Rattle.proof_facts.proofs.exclusion_laws.exclusions_hold.Goals as goal

pub returns : goal.returns
returns c = never_together
