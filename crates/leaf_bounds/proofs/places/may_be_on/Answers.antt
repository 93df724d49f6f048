use Rattle.leaf_bounds.proofs.Bits.{bit_within}
use Rattle.leaf_bounds.proofs.places.may_be_on.Goals as goal

pub is_left-requires : goal.is_left-requires
is_left-requires c = bit_within c.args.rank c.requires.at c.requires.rank
