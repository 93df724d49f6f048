use Rattle.leaf_bounds.proofs.Trails.{item_is}
use Rattle.leaf_bounds.proofs.widths.interval_at.Goals as goal

pub returns : goal.returns
returns c = item_is c.args.widths.now.intervals.items c.args.rank c.requires c.index.ensures
