use Rattle.limits_text.proofs.OneLoop.{goes_round}
use Rattle.limits_text.proofs.laws.loops_go_round.Goals as goal

pub returns : goal.returns
returns c = goes_round
