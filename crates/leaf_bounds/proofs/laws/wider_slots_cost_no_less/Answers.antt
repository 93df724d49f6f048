use Rattle.leaf_bounds.proofs.LikeBuses.{wider_costs}
use Rattle.leaf_bounds.proofs.laws.wider_slots_cost_no_less.Goals as goal

pub returns : goal.returns
returns c = wider_costs c.packed_times_are_least.ensures.falls
