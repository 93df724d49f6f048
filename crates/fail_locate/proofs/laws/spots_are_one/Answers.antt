use Rattle.fail_locate.proofs.FoundSpots.{one_spot}
use Rattle.fail_locate.proofs.laws.spots_are_one.Goals as goal

pub returns : goal.returns
returns c = one_spot
