use Rattle.limits_text.proofs.OneAnswer.{loop_or_ranks}
use Rattle.limits_text.proofs.RanksOrLoops.{ranks_or_loop}
use Rattle.limits_text.proofs.laws.loops_are_where_no_rank_is.Goals as goal

pub returns : goal.returns
returns c = record { no_rank = loop_or_ranks; ranks_or_loop = ranks_or_loop }
