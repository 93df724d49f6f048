use Rattle.std.proofs.Common.{refl}
use Rattle.leaf_bounds.proofs.Takings.{after_none}
use Rattle.leaf_bounds.proofs.case.CaseRoom.widen.Goals as goal

pub returns-clause-further : goal.returns-clause-further
returns-clause-further c = record { widths = c.widen_ranks.ensures.later; ranks = after_none c.args.self.now.ranks; modules = refl }
