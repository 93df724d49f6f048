use Rattle.leaf_bounds.proofs.Bits.{bit_within}
use Rattle.leaf_bounds.proofs.places.take_rank.Goals as goal

pub take_away-requires-clause-at : goal.take_away-requires-clause-at
take_away-requires-clause-at c = bit_within c.args.rank c.requires.at c.requires.rank
