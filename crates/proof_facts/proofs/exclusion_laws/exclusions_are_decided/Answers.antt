use Rattle.proof_facts.proofs.Decided.{decided, turned}
use Rattle.proof_facts.proofs.exclusion_laws.exclusions_are_decided.Goals as goal

pub returns : goal.returns
returns c = record { decided = decided; turned = turned }
