use Rattle.bus_proofs.proofs.AcceptedProofs.{less_shows_less}
use Rattle.bus_proofs.proofs.laws.less_shows_less.Goals as goal

pub returns : goal.returns
returns c = less_shows_less
