use Rattle.std.proofs.Common.{None, length, ap, ◌∙◌}
use Rattle.std.proofs.lemmas.List.{length-replicate}
use Rattle.leaf_bounds.proofs.LikeBuses.{none_kept}
use Rattle.leaf_bounds.proofs.pack_buses.keep_nothing.Goals as goal

pub returns-clause-long : goal.returns-clause-long
returns-clause-long c = ap length c.clear_worths.ensures ∙ length-replicate (length c.args.kept.now.worths.items) None

pub returns-clause-none : goal.returns-clause-none
returns-clause-none c = λ w n at. none_kept (length c.args.kept.now.worths.items) w c.clear_worths.ensures at
