use Rattle.soc_model.specs.Chips.{soc_value}
use Rattle.bound_rules.proofs.widths.lower_tam_time.Goals as goal

pub returns-clause-sum : goal.returns-clause-sum
returns-clause-sum c = c.over_wires.ensures.sum (soc_value c.args.soc.now) c.args.place c.of.ensures
