use Rattle.std.proofs.Common.{◌∙◌}
use Rattle.bound_rules.proofs.Works.{div_ceil_is}
use Rattle.bound_rules.proofs.sizes.dealt_length.Goals as goal

pub returns : goal.returns
returns c = c.div_ceil.ensures ∙ div_ceil_is c.args.cells c.args.width c.requires
