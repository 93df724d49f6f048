use Rattle.leaf_bounds.proofs.Takings.{after_none}
use Rattle.leaf_bounds.proofs.places.take_other.Goals as goal

pub returns-then-rank-kept-clause-after : goal.returns-then-rank-kept-clause-after
returns-then-rank-kept-clause-after c = after_none c.args.ranks.now
