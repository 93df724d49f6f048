use Rattle.proof_facts.proofs.NeverTogether.{least_power-le}
use Rattle.proof_facts.proofs.exclusion_laws.least_powers_are_drawn.Goals as goal

pub returns : goal.returns
returns c = least_power-le
