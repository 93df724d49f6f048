use Rattle.std.proofs.Common.{◌∙◌}
use Rattle.resource_table.proofs.Befores.{before_is}
use Rattle.resource_table.proofs.earlier.all_before.Goals as goal

pub returns-clause-lists : goal.returns-clause-lists
returns-clause-lists c = λ i less. c.in_ok-lists.ensures.lists i less ∙ before_is i c.args.pairs.now
