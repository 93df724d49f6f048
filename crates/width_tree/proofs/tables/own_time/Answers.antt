use Rattle.std.proofs.Common.{arith}
use Rattle.soc_model.specs.Chips.{soc_value}
use Rattle.width_tree.proofs.WidthFacts.{bound_splits}
use Rattle.width_tree.proofs.tables.own_time.Goals as goal

pub overflow_sub-result : goal.overflow_sub-result
overflow_sub-result c =
    omega (arith, c.of_all.ensures.sum (soc_value c.args.soc.now) c.args.place c.of-lower.ensures, c.over_wires.ensures.sum (soc_value c.args.soc.now) c.args.place c.of-lower.ensures, bound_splits (soc_value c.args.soc.now) c.args.wires c.args.place)

pub returns-clause-time : goal.returns-clause-time
returns-clause-time c =
    omega (arith, c.of_all.ensures.sum (soc_value c.args.soc.now) c.args.place c.of-lower.ensures, c.over_wires.ensures.sum (soc_value c.args.soc.now) c.args.place c.of-lower.ensures, bound_splits (soc_value c.args.soc.now) c.args.wires c.args.place)
