use Rattle.bus_proofs.proofs.Rankings.{plans_have_rankings}
use Rattle.bus_proofs.proofs.laws.plans_have_rankings.Goals as goal

pub returns : goal.returns
returns c = plans_have_rankings
